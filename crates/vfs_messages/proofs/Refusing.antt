-- For want of memory extensions are refused only where a context was agreed on.
use Rattle.std.proofs.Common.{◌&&◌, ℕ, List, length, drop, nat_lt, Result, Ok, Err, ◌≡◌, ◌≢◌, ◌∙◌, sym, subst, inl, inr}
use Rattle.std.specs.Prelude.{IsFalse}
use Rattle.vfs_flags.specs.Flags.{security_ctx, has_flag}
use Rattle.vfs_files.specs.Values.{extension_values_of}
use Rattle.vfs_files.specs.declared.extensions.Extensions.{Extensions}
use Rattle.vfs_grammar.specs.Words.{reads_extensions, extensions_after}
use Rattle.vfs_grammar.specs.declared.error.Error.{Error}
use Rattle.vfs_grammar.specs.declared.error.Error.TheVariants.{OutOfMemory}
use Rattle.vfs_grammar.proofs.Refusing.{MayRefuse, IsRefused, tested, of_extensions}
use Rattle.vfs_messages.specs.Parts.{GivesValue, MayHoldContext}

-- extensions that were read aren't refused for want of memory where contexts aren't agreed on
gives_else : {A B : Type 0} (wanted : Type 0) (value : A → B) (result : Result A Error) (said : Result B Error) → IsRefused said
    → GivesValue wanted value result said → result ≡ Err OutOfMemory → wanted
gives_else wanted value (Ok x) said m g o = absurd (let a = o in cc)
gives_else wanted value (Err e) said m (inl g) o =
    let same : e ≡ OutOfMemory = cc in
    absurd (subst MayRefuse same (subst IsRefused g m))
gives_else wanted value (Err e) said m (inr g) o = g.0

pub never_memory : (options skip : ℕ) (bytes : List ℕ) (result : Result Extensions Error)
    → GivesValue (MayHoldContext options) extension_values_of result (extensions_after options skip bytes)
    → IsFalse (has_flag options security_ctx) → result ≢ Err OutOfMemory
never_memory options skip bytes result g unagreed o =
    let said : IsRefused (extensions_after options skip bytes) =
    tested (nat_lt (length bytes) skip && reads_extensions options) _ _ tt (of_extensions options (drop skip bytes)) in
    let agreed = gives_else (MayHoldContext options) extension_values_of result _ said g o in
    absurd (let a = sym agreed ∙ unagreed in cc)
