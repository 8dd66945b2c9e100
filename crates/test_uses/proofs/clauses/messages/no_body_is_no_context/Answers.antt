use Rattle.std.proofs.Common.{◌≡◌, ℕ, List, [], Option, Result, Ok, Err, refl, inl, inr}
use Rattle.vfs_files.specs.declared.extensions.SecContext.{SecContext}
use Rattle.vfs_grammar.specs.declared.error.Error.{Error}
use Rattle.vfs_grammar.specs.declared.error.Error.TheVariants.{DecodeMessage}
use Rattle.vfs_messages.specs.Parts.{GivesValue, HoldsContext}
use Rattle.test_uses.proofs.clauses.messages.no_body_is_no_context.Goals as goal

is_refused : {B : Type 0} (wanted : Type 0) (never : wanted → ⊥) (value : Option SecContext → B) (error : Error)
    (result : Result (Option SecContext) Error) (said : Result B Error) → said ≡ Err error
    → GivesValue wanted value result said → result ≡ Err error
is_refused wanted never value error (Ok x) said is given = absurd (cc (is, given))
is_refused wanted never value error (Err e) said is (inl refused) = cc (is, refused)
is_refused wanted never value error (Err e) said is (inr (want, memory)) = absurd (never want)

no_context : (body : List ℕ) → body ≡ [] → HoldsContext 1 body → ⊥
no_context body empty want = let whole = rw empty at want.1 in cc (whole)

pub returns : goal.returns
returns c =
    is_refused _ (no_context c.args.body.now c.requires) _ DecodeMessage c.parse_security_context.result _
    (rw c.requires refl) c.parse_security_context.ensures
