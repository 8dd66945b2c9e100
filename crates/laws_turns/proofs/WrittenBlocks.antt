-- Extensions as they are written: what is found in them is what was written.
use Rattle.std.proofs.Common.{◌≡◌, ◌≢◌, ◌+◌, ◌^◌, ◌<◌, ◌≤◌, ◌==◌, ◌||◌, ◌&&◌, not, ℕ, List, [], ◌∷◌, ◌++◌, length, drop, get_or, position, Bool, true, false, if◌then◌else◌, Option, Some, None, is_some, Result, Ok, Err, refl, ap, sym, ◌∙◌, arith, lit<, length-append, append_assoc, append-nil}
use Rattle.std.specs.Prelude.{nat_lt}
use Rattle.std.specs.List.{position_or_len}
use Rattle.std.proofs.lemmas.Bool.{le-ltb}
use Rattle.std.proofs.lemmas.Bool.Decides.{nat_tests}
use Rattle.std.proofs.lemmas.Grind.{common_steps}
use Rattle.std.proofs.lemmas.List.{drop_at, take_at, take_all, get_or_at, get_or_append_left}
use Rattle.std.proofs.lemmas.List.Sums.{position_or_len_is}
use Rattle.vfs_flags.specs.Flags.{security_ctx, create_supp_group, has_flag}
use Rattle.vfs_wire.specs.Fields.{Table, Fit, bytes_of, lone_number}
use Rattle.vfs_wire.specs.FieldLaws.{value_of-bytes_of-then, length-bytes_of}
use Rattle.vfs_wire.specs.Records.{secctx, supp_groups}
use Rattle.vfs_wire.specs.declared.extensions.Secctx.{Secctx}
use Rattle.vfs_wire.specs.declared.extensions.SuppGroups.{SuppGroups}
use Rattle.vfs_files.specs.Values.{first_name, ExtensionValues}
use Rattle.vfs_files.specs.Places.{cut_at}
use Rattle.vfs_grammar.specs.Records.{size_of, record_of}
use Rattle.vfs_grammar.specs.Extensions.{Block, Received, error_or, name_and_value, context_in, security_context_in, group_in, cut_of, extensions_in}
use Rattle.vfs_grammar.specs.Words.{reads_extensions, nothing_received, with_context, with_group, receive, extensions_of, extensions_after}
use Rattle.vfs_grammar.specs.FormParts.{value_after}
use Rattle.laws_turns.specs.Extensions.{context_bytes, context_block, group_bytes, group_block, blocks_of, FitsContext, MayFitContext, MayFitGroup, FitExtensions, IsBlock}
use Rattle.vfs_grammar.specs.declared.error.Error.{Error}
use Rattle.vfs_grammar.specs.declared.error.Error.TheVariants.{DecodeMessage}
use Rattle.vfs_grammar.proofs.Blocks.{extensions_in-cut, says-more, extensions_of-end}
use Rattle.laws_turns.proofs.BlockLaws.{block_in-is, after_block, block_bytes-is}

-- a test that fails
unless : {A : Type 0} (b : Bool) (x y : A) → b ≡ false → (if b then x else y) ≡ y
unless true x y h = absurd cc
unless false x y h = refl

-- what was agreed on and isn't there yet
not_refused : (agreed there : Bool) → agreed ≡ true → there ≡ false → (not agreed || there) ≡ false
not_refused true true h k = absurd cc
not_refused true false h k = refl
not_refused false there h k = absurd cc

-- ---- bodies

-- a record is read from its bytes, whatever follows them
record_of-written : {R : Type 0} (t : Table R) (x : R) (rest : List ℕ) → Fit t.widths (t.fields x)
    → t.made (t.fields x) ≡ x
    → record_of t (bytes_of t x ++ rest) ≡ Ok x
record_of-written {R = R} t x rest fit again =
    let long : size_of t ≤ length (bytes_of t x ++ rest) =
    omega (arith, length-append (bytes_of t x) rest, length-bytes_of t x fit) in
    unless (nat_lt (length (bytes_of t x ++ rest)) (size_of t)) _ _
    (le-ltb (length (bytes_of t x ++ rest)) (size_of t) long)
    ∙ ap (λ (r : R). Ok r) (value_of-bytes_of-then t x rest fit again)

-- the first 0 after a name
first_nul_after : (name rest : List ℕ) → ((k : ℕ) → k < length name → get_or name k 0 ≢ 0)
    → position_or_len (λ b. b == 0) (name ++ 0 ∷ rest) ≡ length name
first_nul_after name rest h =
    position_or_len_is (λ b. b == 0) (name ++ 0 ∷ rest) (length name) 0 (grind (arith, common_steps))
    (λ k lt. let ne = h k lt in rw get_or_append_left (grind (arith, nat_tests)))
    (λ _. rw (get_or_at name 0 rest 0 (length name) refl) refl)

-- a name is found, and what is after it
first_name-written : (name rest : List ℕ) → ((k : ℕ) → k < length name → get_or name k 0 ≢ 0)
    → first_name (name ++ 0 ∷ rest) ≡ Some (name, rest)
first_name-written name rest h =
    let at = first_nul_after name rest h in
    let here : position (λ b. b == 0) (name ++ 0 ∷ rest) ≡ Some (length name) = grind (arith, common_steps) in
    let following : drop (length name + 1) (name ++ 0 ∷ rest) ≡ rest =
    ap (drop (length name + 1)) (sym (append_assoc name (0 ∷ []) rest))
    ∙ drop_at (name ++ 0 ∷ []) rest (length name + 1) (omega (arith, length-append name (0 ∷ []))) in
    ap (cut_at (name ++ 0 ∷ rest)) here ∙ rw (take_at name (0 ∷ rest) (length name) refl, following) refl

-- bytes that are there have a name
name_and_value-some : (size : ℕ) (bytes : List ℕ) → 0 < length bytes
    → name_and_value size bytes ≡ value_after size (first_name bytes)
name_and_value-some size [] h = absurd (omega arith)
name_and_value-some size (b ∷ bytes) h = refl

-- a name and a value are found
name_and_value-written : (context : List ℕ × List ℕ) → FitsContext context
    → name_and_value (length context.1) (context.0 ++ 0 ∷ context.1) ≡ Ok context
name_and_value-written context fits =
    name_and_value-some (length context.1) (context.0 ++ 0 ∷ context.1)
    (omega (arith, length-append context.0 (0 ∷ context.1)))
    ∙ ap (value_after (length context.1)) (first_name-written context.0 context.1 fits.no_nul)
    ∙ unless (nat_lt (length context.1) (length context.1)) _ _
    (le-ltb (length context.1) (length context.1) (omega arith))
    ∙ ap (λ (value : List ℕ). Ok (context.0, value)) (take_all (length context.1) context.1 (omega arith))

-- a context is found
context_in-written : (context : List ℕ × List ℕ) → FitsContext context → context_in (context_bytes context) ≡ Ok context
context_in-written context fits =
    let h : Secctx = record { size = length context.1; padding = 0 } in
    let texts : List ℕ = context.0 ++ 0 ∷ context.1 in
    let size : length context.1 < 2 ^ 32 = omega (arith, fits.in_size) in
    let next : Secctx → Result (List ℕ × List ℕ) Error =
    λ r. if r.size == 0 then Err DecodeMessage else name_and_value r.size (drop 8 (context_bytes context)) in
    let following : drop 8 (context_bytes context) ≡ texts =
    drop_at (bytes_of secctx h) texts 8 (length-bytes_of secctx h (size, (lit< tt, tt))) in
    let some : (length context.1 == 0) ≡ false = let has = fits.has_value in grind (arith, nat_tests) in
    ap (λ (r : Result Secctx Error). error_or r next) (record_of-written secctx h texts (size, (lit< tt, tt)) refl)
    ∙ unless (length context.1 == 0) _ _ some
    ∙ ap (name_and_value (length context.1)) following ∙ name_and_value-written context fits

-- and so in the body of a block of one
security_context_in-written : (context : List ℕ × List ℕ) → FitsContext context
    → security_context_in 1 (context_bytes context) ≡ Ok (Some context)
security_context_in-written context fits =
    let next : List ℕ × List ℕ → Result (Option (List ℕ × List ℕ)) Error = λ c. Ok (Some c) in
    ap (λ (r : Result (List ℕ × List ℕ) Error). error_or r next) (context_in-written context fits)

-- a group is found
group_in-written : (group : ℕ) → group < 2 ^ 32 → group_in (group_bytes group) ≡ Ok group
group_in-written group small =
    let h : SuppGroups = record { nr_groups = 1 } in
    let one : List ℕ = bytes_of (lone_number 4) group in
    let next : SuppGroups → Result ℕ Error =
    λ r. if r.nr_groups == 1 then record_of (lone_number 4) (drop 4 (group_bytes group)) else Err DecodeMessage in
    let following : drop 4 (group_bytes group) ≡ one =
    drop_at (bytes_of supp_groups h) one 4 (length-bytes_of supp_groups h (lit< tt, tt)) in
    ap (λ (r : Result SuppGroups Error). error_or r next) (record_of-written supp_groups h one (lit< tt, tt) refl)
    ∙ ap (record_of (lone_number 4)) (following ∙ sym (append-nil one))
    ∙ record_of-written (lone_number 4) group [] (small, tt) refl

-- ---- blocks

-- what was received, without a fault
abbrev received_ok : Received → Result Received Error
received_ok r = Ok r

-- the body of a context is no longer than a header can say
context_is_short : (context : List ℕ × List ℕ) → FitsContext context → 8 + length (context_bytes context) < 2 ^ 32
context_is_short context fits =
    let h : Secctx = record { size = length context.1; padding = 0 } in
    let size : length context.1 < 2 ^ 32 = omega (arith, fits.in_size) in
    omega (
      arith,
      fits.in_size,
      length-append (bytes_of secctx h) (context.0 ++ 0 ∷ context.1),
      length-append context.0 (0 ∷ context.1),
      length-bytes_of secctx h (size, (lit< tt, tt)),
    )

-- and that of a group
group_is_short : (group : ℕ) → group < 2 ^ 32 → 8 + length (group_bytes group) < 2 ^ 32
group_is_short group small =
    let h : SuppGroups = record { nr_groups = 1 } in
    omega (
      arith,
      length-append (bytes_of supp_groups h) (bytes_of (lone_number 4) group),
      length-bytes_of supp_groups h (lit< tt, tt),
      length-bytes_of (lone_number 4) group (small, tt),
    )

-- after a block that is well
extensions_of-written : (options : ℕ) (r more : Received) (bytes : List ℕ) (b : Block) (following : List ℕ)
    → IsBlock bytes b following → receive options r b ≡ Ok more
    → extensions_of options r (cut_of bytes) ≡ extensions_of options more (cut_of following)
extensions_of-written options r more bytes b following is well =
    sym (says-more options r more bytes following b _ refl (block_in-is bytes b following is)
    (sym (after_block bytes b following is)) well)

-- after the block of contexts
extensions_of-context : (options : ℕ) (context : Option (List ℕ × List ℕ)) (following : List ℕ)
    → has_flag options security_ctx ≡ true → MayFitContext context
    → extensions_of options nothing_received (cut_of (context_block context ++ following))
    ≡ extensions_of options (with_context nothing_received context) (cut_of following)
extensions_of-context options None following agreed fits =
    extensions_of-written options nothing_received (with_context nothing_received None) _
    (record { ext_type = 0; body = [] }) following
    (block_bytes-is 0 [] following (lit< tt) (lit< tt))
    (unless (not (has_flag options security_ctx) || false) _ _
    (not_refused (has_flag options security_ctx) false agreed refl))
extensions_of-context options (Some context) following agreed fits =
    extensions_of-written options nothing_received (with_context nothing_received (Some context)) _
    (record { ext_type = 1; body = context_bytes context }) following
    (block_bytes-is 1 (context_bytes context) following (lit< tt) (context_is_short context fits))
    (unless (not (has_flag options security_ctx) || false) _ _
    (not_refused (has_flag options security_ctx) false agreed refl)
    ∙ ap (λ (r : Result (Option (List ℕ × List ℕ)) Error). error_or r
    (λ c. received_ok (with_context nothing_received c))) (security_context_in-written context fits))

-- after the block of groups
extensions_of-group : (options : ℕ) (r : Received) (group : ℕ) (following : List ℕ)
    → has_flag options create_supp_group ≡ true → is_some r.values.group ≡ false → group < 2 ^ 32
    → extensions_of options r (cut_of (group_block (Some group) ++ following))
    ≡ extensions_of options (with_group r group) (cut_of following)
extensions_of-group options r group following agreed none small =
    extensions_of-written options r (with_group r group) _ (record { ext_type = 32; body = group_bytes group }) following
    (block_bytes-is 32 (group_bytes group) following (lit< tt) (group_is_short group small))
    (unless (not (has_flag options create_supp_group) || is_some r.values.group) _ _
    (not_refused (has_flag options create_supp_group) (is_some r.values.group) agreed none)
    ∙ ap (λ (g : Result ℕ Error). error_or g (λ n. received_ok (with_group r n))) (group_in-written group small))

-- ---- extensions

-- one of two is true
either : (a b : Bool) → a ≡ true → (a || b) ≡ true
either true b h = refl
either false b h = absurd cc

-- the other is
or_else : (a b : Bool) → b ≡ true → (a || b) ≡ true
or_else true b h = refl
or_else false b h = h

-- a test that passes
reads : {A : Type 0} (b : Bool) (x y : A) → b ≡ true → (if b then x else y) ≡ x
reads true x y h = refl
reads false x y h = absurd cc

-- two tests, of which the first fails
short_or : {A : Type 0} (short b : Bool) (x y : A) → short ≡ false → (if short && b then x else y) ≡ y
short_or true b x y h = absurd cc
short_or false b x y h = refl

-- where extensions are read
extensions_in-read : (options : ℕ) (bytes : List ℕ) → reads_extensions options ≡ true
    → extensions_in options bytes ≡ extensions_of options nothing_received (cut_of bytes)
extensions_in-read options bytes h =
    extensions_in-cut options bytes ∙ reads (reads_extensions options) _ _ h

-- what was received is found at the end
extensions_of-received : (options : ℕ) (r : Received) → (has_flag options security_ctx && not r.has_contexts) ≡ false
    → extensions_of options r (cut_of []) ≡ Ok r.values
extensions_of-received options r h =
    extensions_of-end options r [] refl ∙ unless (has_flag options security_ctx && not r.has_contexts) _ _ h

-- both of two, where the second is false
and_false : (a : Bool) → (a && false) ≡ false
and_false true = refl
and_false false = refl

-- and where the first is
not_and : (a b : Bool) → a ≡ false → (a && b) ≡ false
not_and true b h = absurd cc
not_and false b h = refl

-- the group after the block of contexts
extensions_of-may_group : (options : ℕ) (context : Option (List ℕ × List ℕ)) (group : Option ℕ)
    → (is_some group ≡ true → has_flag options create_supp_group ≡ true) → MayFitGroup group
    → extensions_of options (with_context nothing_received context) (cut_of (group_block group))
    ≡ Ok (record { context = context; group = group })
extensions_of-may_group options context None agreed fits =
    extensions_of-received options (with_context nothing_received context) (and_false (has_flag options security_ctx))
extensions_of-may_group options context (Some group) agreed fits =
    let r : Received = with_context nothing_received context in
    ap (λ (bytes : List ℕ). extensions_of options r (cut_of bytes)) (sym (append-nil (group_block (Some group))))
    ∙ extensions_of-group options r group [] (agreed refl) refl fits
    ∙ extensions_of-received options (with_group r group) (and_false (has_flag options security_ctx))

-- after names
extensions_after-names : (options : ℕ) (names bytes : List ℕ)
    → extensions_after options (length names) (names ++ bytes) ≡ extensions_in options bytes
extensions_after-names options names bytes =
    let long : length names ≤ length (names ++ bytes) = omega (arith, length-append names bytes) in
    short_or (nat_lt (length (names ++ bytes)) (length names)) (reads_extensions options) _ _
    (le-ltb (length (names ++ bytes)) (length names) long)
    ∙ ap (extensions_in options) (drop_at names bytes (length names) refl)

-- what is written is found
extensions_in-written : (options : ℕ) (values : ExtensionValues) → has_flag options security_ctx ≡ true
    → (is_some values.group ≡ true → has_flag options create_supp_group ≡ true) → FitExtensions values
    → extensions_in options (blocks_of values) ≡ Ok values
extensions_in-written options values agreed group fits =
    extensions_in-read options (blocks_of values)
    (either (has_flag options security_ctx) (has_flag options create_supp_group) agreed)
    ∙ extensions_of-context options values.context (group_block values.group) agreed fits.context
    ∙ extensions_of-may_group options values.context values.group group fits.group

-- and so is a group alone
extensions_in-group : (options group : ℕ) → has_flag options security_ctx ≡ false
    → has_flag options create_supp_group ≡ true → group < 2 ^ 32
    → extensions_in options (group_block (Some group)) ≡ Ok (record { context = None; group = Some group })
extensions_in-group options group unagreed agreed small =
    extensions_in-read options (group_block (Some group))
    (or_else (has_flag options security_ctx) (has_flag options create_supp_group) agreed)
    ∙ ap (λ (bytes : List ℕ). extensions_of options nothing_received (cut_of bytes))
    (sym (append-nil (group_block (Some group))))
    ∙ extensions_of-group options nothing_received group [] agreed refl small
    ∙ extensions_of-received options (with_group nothing_received group)
    (not_and (has_flag options security_ctx) true unagreed)

-- the same after names
pub extensions_after-written : (options : ℕ) (names : List ℕ) (values : ExtensionValues)
    → has_flag options security_ctx ≡ true
    → (is_some values.group ≡ true → has_flag options create_supp_group ≡ true) → FitExtensions values
    → extensions_after options (length names) (names ++ blocks_of values) ≡ Ok values
extensions_after-written options names values agreed group fits =
    extensions_after-names options names (blocks_of values) ∙ extensions_in-written options values agreed group fits

-- and so is a group alone
pub extensions_after-group : (options group : ℕ) (names : List ℕ) → has_flag options security_ctx ≡ false
    → has_flag options create_supp_group ≡ true → group < 2 ^ 32
    → extensions_after options (length names) (names ++ group_block (Some group))
    ≡ Ok (record { context = None; group = Some group })
extensions_after-group options group names unagreed agreed small =
    extensions_after-names options names (group_block (Some group))
    ∙ extensions_in-group options group unagreed agreed small
