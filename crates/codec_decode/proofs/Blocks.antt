-- The context of blocks comes after the header of the first block of one context.
use Rattle.std.proofs.Common.{◌≡◌, ◌≢◌, ◌∙◌, ◌+◌, ◌-◌, ◌==◌, ◌||◌, ◌≤◌, ◌<◌, ℕ, zero, suc, Bool, true, false, not, if◌then◌else◌, is_some, nat_lt, List, [], ◌∷◌, length, take, drop, position, Option, None, Some, Result, Ok, Err, refl, ap, sym, arith, length-take, length-drop}
use Rattle.std.proofs.lemmas.Bool.Decides.{nat_tests}
use Rattle.std.proofs.lemmas.List.{drop-drop}
use Rattle.vfs_flags.specs.Numbers.{ext_type_of}
use Rattle.vfs_flags.specs.Flags.{security_ctx, create_supp_group, has_flag}
use Rattle.vfs_flags.specs.declared.ext_type.ExtType.{ExtType}
use Rattle.vfs_flags.specs.declared.ext_type.ExtType.TheVariants.{SecCtx, SupGroups}
use Rattle.vfs_wire.specs.Records.{ext_header, secctx}
use Rattle.vfs_wire.specs.Fields.{value_of}
use Rattle.vfs_wire.specs.declared.extensions.ExtHeader.{ExtHeader}
use Rattle.vfs_files.specs.Values.{ExtensionValues}
use Rattle.vfs_files.specs.Places.{cut_at}
use Rattle.vfs_grammar.specs.Extensions.{error_or, name_and_value, context_in, security_context_in, group_in, Block, block_in, cut_on, cut_of_most, cut_of, no_extensions, Received, receive_kind, receive_all, received_at_end, extensions_in}
use Rattle.vfs_grammar.specs.Words.{block_size, reads_extensions, nothing_received, with_context, with_group, receive, extensions_of}
use Rattle.vfs_grammar.specs.FormParts.{value_after}
use Rattle.vfs_grammar.proofs.Blocks.{extensions_in-cut}
use Rattle.vfs_grammar.specs.Records.{record_of}
use Rattle.vfs_grammar.specs.declared.error.Error.{Error}
use Rattle.vfs_grammar.specs.declared.error.Error.TheVariants.{DecodeMessage, InvalidHeaderLength}
use Rattle.codec_decode.specs.Contexts.{ContextAt}
use Rattle.codec_decode.proofs.Cutting.{is_nul, stands_in, dropped, first_nul_in, else_ok, or_ok, same_ok, Both, both}

-- ---- a context in a body

-- a first and a second part of a beginning of what is after a place are there
both_within : (q : List ℕ) (at n : ℕ) (tail : List ℕ) (c : List ℕ × List ℕ) → tail ≡ take n (drop at q) → 0 < length c.1 → Both tail c.0 c.1 → ContextAt q at c
both_within q at n tail c is some b =
    let d = length c.0 + 1 in
    let k = dropped d n (drop at q) in
    let second : c.1 ≡ take b.n (take k.0 (drop d (drop at q))) = b.second_is ∙ ap (λ (xs : List ℕ). take b.n (drop d xs)) is ∙ ap (take b.n) k.1 in
    let all : length tail ≤ length q - at = omega (arith, ap length is, length-take n (drop at q), length-drop at q) in
    record {
      name = record {
        within = omega (arith, b.within, all);
        bytes_are = sym (stands_in (length c.0) n c.0 (drop at q) (b.first_is ∙ ap (take (length c.0)) is));
        ended = first_nul_in n (drop at q) (length c.0) (ap (position is_nul) (sym is) ∙ b.ended);
      };
      value = record {
        within = omega (arith, b.within, all, ap length b.second_is, length-take b.n (drop d tail), length-drop d tail);
        bytes_are = sym (stands_in b.n k.0 c.1 (drop d (drop at q)) second ∙ ap (take (length c.1)) (drop-drop d at q));
      };
      some = some;
    }

-- a name and a value of this size
record Sized (size : ℕ) (bytes : List ℕ) (c : List ℕ × List ℕ) : Type 0 where
  parts : Both bytes c.0 c.1
  sized : length c.1 ≡ size

value_cut : (size : ℕ) (bytes : List ℕ) (i : ℕ) (short : Bool) (c : List ℕ × List ℕ) → position is_nul bytes ≡ Some i
    → nat_lt (length (drop (i + 1) bytes)) size ≡ short
    → (if short then Err DecodeMessage else Ok (take i bytes, take size (drop (i + 1) bytes))) ≡ Ok c → Sized size bytes c
value_cut size bytes i true c at s e = absurd (let a = e in cc)
value_cut size bytes i false c at s e =
    let same : (take i bytes, take size (drop (i + 1) bytes)) ≡ c = same_ok _ c e in
    let second : c.1 ≡ take size (drop (i + 1) bytes) = sym (ap (λ (p : List ℕ × List ℕ). p.1) same) in
    let enough : size ≤ length (drop (i + 1) bytes) = grind (arith, nat_tests, s) in
    record {
      parts = both bytes c.0 c.1 i size at (sym (ap (λ (p : List ℕ × List ℕ). p.0) same)) second;
      sized = omega (arith, ap length second, length-take size (drop (i + 1) bytes), enough);
    }

value_in_cut : (size : ℕ) (bytes : List ℕ) (p : Option ℕ) (c : List ℕ × List ℕ) → position is_nul bytes ≡ p → value_after size (cut_at bytes p) ≡ Ok c → Sized size bytes c
value_in_cut size bytes None c at e = absurd (let a = e in cc)
value_in_cut size bytes (Some i) c at e = value_cut size bytes i (nat_lt (length (drop (i + 1) bytes)) size) c at refl e

value_sized : (size : ℕ) (bytes : List ℕ) (c : List ℕ × List ℕ) → name_and_value size bytes ≡ Ok c → Sized size bytes c
value_sized size [] c e = absurd (let a = e in cc)
value_sized size (b ∷ bytes) c e = value_in_cut size (b ∷ bytes) (position is_nul (b ∷ bytes)) c refl e

positive : (size : ℕ) (b : Bool) → (size == 0) ≡ b → b ≡ false → 0 < size
positive size b e f = grind (arith, nat_tests, e, f)

sized_size : (size : ℕ) (b : Bool) (body : List ℕ) (c : List ℕ × List ℕ) → (size == 0) ≡ b
    → (if b then Err DecodeMessage else name_and_value size (drop 8 body)) ≡ Ok c → (0 < size) × Sized size (drop 8 body) c
sized_size size true body c z e = absurd (let a = e in cc)
sized_size size false body c z e = (positive size false z refl, value_sized size (drop 8 body) c e)

-- the context of a body comes after its record, where the body is a beginning of what is after a place
context_stands : (q : List ℕ) (at n : ℕ) (body : List ℕ) (c : List ℕ × List ℕ) → body ≡ take n (drop at q) → context_in body ≡ Ok c → ContextAt q (at + 8) c
context_stands q at n body c is e =
    let o = or_ok (record_of secctx body) _ c e in
    let s = sized_size o.0.size (o.0.size == 0) body c refl o.2 in
    let k = dropped 8 n (drop at q) in
    let following : drop 8 body ≡ take k.0 (drop (at + 8) q) = ap (drop 8) is ∙ k.1 ∙ ap (take k.0) (drop-drop 8 at q) in
    both_within q (at + 8) k.0 (drop 8 body) c following (omega (arith, s.0, s.1.sized)) s.1.parts

-- ---- blocks

-- blocks are left, and no context was received
pub record Left (options : ℕ) (left : List ℕ) (ext : ExtensionValues) : Type 0 where
  pub received : Received
  pub most : ℕ
  pub enough : length left ≤ most
  pub none : received.values.context ≡ None
  pub rest : extensions_of options received (cut_of_most most left) ≡ Ok ext

at_start : (options : ℕ) (b : Bool) (blocks : List ℕ) (ext : ExtensionValues) (c : List ℕ × List ℕ)
    → (if b then extensions_of options nothing_received (cut_of_most (length blocks) blocks) else Ok no_extensions) ≡ Ok ext
    → ext.context ≡ Some c → Left options blocks ext
at_start options true blocks ext c e s = record { received = nothing_received; most = length blocks; enough = omega arith; none = refl; rest = e }
at_start options false blocks ext c e s =
    let same : no_extensions ≡ ext = same_ok no_extensions ext e in absurd (let a = ap (λ (x : ExtensionValues). x.context) same ∙ s in cc)

pub all_left : (options : ℕ) (blocks : List ℕ) (ext : ExtensionValues) (c : List ℕ × List ℕ)
    → extensions_in options blocks ≡ Ok ext → ext.context ≡ Some c → Left options blocks ext
unfolding cut_of
all_left options blocks ext c e s =
    at_start options (reads_extensions options) blocks ext c (sym (extensions_in-cut options blocks) ∙ e) s

-- at the end no context can be there
ended : (lacks : Bool) (received : Received) (ext : ExtensionValues) (e : Error)
    → (if lacks then Err e else Ok received.values) ≡ Ok ext → received.values ≡ ext
ended true received ext e h = absurd (let a = h in cc)
ended false received ext e h = same_ok received.values ext h

end_context : (options : ℕ) (most : ℕ) (received : Received) (ext : ExtensionValues) → extensions_of options received (cut_of_most most []) ≡ Ok ext → received.values ≡ ext
end_context options zero received ext h = ended _ received ext _ h
end_context options (suc most) received ext h = ended _ received ext _ h

pub none_left : (options : ℕ) (ext : ExtensionValues) (c : List ℕ × List ℕ) → Left options [] ext → ext.context ≡ Some c → ⊥
none_left options ext c l s =
    let same = end_context options l.most l.received ext l.rest in
    let a : None ≡ Some c = sym l.none ∙ ap (λ (x : ExtensionValues). x.context) same ∙ s in cc

-- a context that was received stays
kept_to_end : (options : ℕ) (fault : Option Error) (received : Received) (ext : ExtensionValues) → received_at_end options fault received ≡ Ok ext → ext.context ≡ received.values.context
kept_to_end options (Some e) received ext h = absurd (let a = h in cc)
kept_to_end options None received ext h = sym (ap (λ (x : ExtensionValues). x.context) (ended _ received ext _ h))

kept_kind : (options : ℕ) (received more : Received) (kind : Option ExtType) (body : List ℕ) → received.has_contexts ≡ true
    → receive_kind options received kind body ≡ Ok more → (more.has_contexts ≡ true) × (more.values.context ≡ received.values.context)
kept_kind options received more None body has h = absurd (let a = h in cc)
kept_kind options received more (Some (SecCtx nr)) body has h = refused (not (has_flag options security_ctx)) h
  where
    refused : (b : Bool) → (if b || received.has_contexts then Err DecodeMessage else error_or (security_context_in nr body) (λ context. Ok (with_context received context))) ≡ Ok more
        → (more.has_contexts ≡ true) × (more.values.context ≡ received.values.context)
    refused true h = absurd (let a = h in cc)
    refused false h = absurd (let a = rw has at h in let b = a in cc)
kept_kind options received more (Some SupGroups) body has h =
    let o = or_ok (group_in body) (λ group. Ok (with_group received group)) more (else_ok (not (has_flag options create_supp_group) || is_some received.values.group) _ _ more h) in
    let same : with_group received o.0 ≡ more = same_ok _ more o.2 in
    (sym (ap (λ (r : Received). r.has_contexts) same) ∙ has, sym (ap (λ (r : Received). r.values.context) same))

kept : (options : ℕ) (fault : Option Error) (blocks : List Block) (received : Received) (ext : ExtensionValues) → received.has_contexts ≡ true
    → error_or (receive_all options received blocks) (received_at_end options fault) ≡ Ok ext → ext.context ≡ received.values.context
kept options fault [] received ext has h = kept_to_end options fault received ext h
kept options fault (block ∷ blocks) received ext has h =
    let o = or_ok (receive_all options received (block ∷ blocks)) (received_at_end options fault) ext h in
    let p = or_ok (receive options received block) (λ more. receive_all options more blocks) o.0 o.1 in
    let k = kept_kind options received p.0 (ext_type_of block.ext_type) block.body has p.1 in
    let again : error_or (receive_all options p.0 blocks) (received_at_end options fault) ≡ Ok ext = ap (λ r. error_or r (received_at_end options fault)) p.2 ∙ o.2 in
    kept options fault blocks p.0 ext k.0 again ∙ k.1

-- the block in front
pub record First (left : List ℕ) (block : Block) : Type 0 where
  pub least : 8 ≤ block_size left
  pub fits : block_size left ≤ length left
  pub type_is : block.ext_type ≡ (value_of ext_header left).ext_type
  pub body_is : block.body ≡ take (block_size left - 8) (drop 8 left)

whole_header : (short : Bool) (left : List ℕ) (v r : ExtHeader) → (if short then Err DecodeMessage else Ok v) ≡ Ok r → v ≡ r
whole_header true left v r e = absurd (let a = e in cc)
whole_header false left v r e = same_ok v r e

cut_block : (left : List ℕ) (r : ExtHeader) (small long : Bool) (block : Block) → nat_lt r.size 8 ≡ small → nat_lt (length left) r.size ≡ long
    → (if small then Err InvalidHeaderLength else if long then Err DecodeMessage else Ok (record { ext_type = r.ext_type; body = take (r.size - 8) (drop 8 left) })) ≡ Ok block
    → r ≡ value_of ext_header left → First left block
cut_block left r true long block s l e is = absurd (let a = e in cc)
cut_block left r false true block s l e is = absurd (let a = e in cc)
cut_block left r false false block s l e is =
    let given : Block = record { ext_type = r.ext_type; body = take (r.size - 8) (drop 8 left) } in
    let made : given ≡ block = same_ok given block e in
    let size : r.size ≡ block_size left = ap (λ (h : ExtHeader). h.size) is in
    let least : 8 ≤ r.size = grind (arith, nat_tests, s) in
    let fits : r.size ≤ length left = grind (arith, nat_tests, l) in
    record {
      least = omega (arith, least, size);
      fits = omega (arith, fits, size);
      type_is = sym (ap (λ (b : Block). b.ext_type) made) ∙ ap (λ (h : ExtHeader). h.ext_type) is;
      body_is = sym (ap (λ (b : Block). b.body) made) ∙ ap (λ (n : ℕ). take (n - 8) (drop 8 left)) size;
    }

first_block : (left : List ℕ) (block : Block) → block_in left ≡ Ok block → First left block
first_block left block e =
    let o = or_ok (record_of ext_header left) _ block e in
    cut_block left o.0 (nat_lt o.0.size 8) (nat_lt (length left) o.0.size) block refl refl o.2
    (sym (whole_header (nat_lt (length left) 8) left (value_of ext_header left) o.0 o.1))

-- what is received with it, and the blocks after it
pub record Next (options : ℕ) (received : Received) (left : List ℕ) (ext : ExtensionValues) : Type 0 where
  pub block : Block
  pub first : First left block
  pub more : Received
  pub most : ℕ
  pub enough : length (drop (block_size left) left) ≤ most
  pub got : receive options received block ≡ Ok more
  pub rest : extensions_of options more (cut_of_most most (drop (block_size left) left)) ≡ Ok ext

next_of : (options most : ℕ) (received : Received) (left : List ℕ) (ext : ExtensionValues) (b : Result Block Error) → block_in left ≡ b
    → length left ≤ suc most → extensions_of options received (cut_on b (cut_of_most most (drop (block_size left) left))) ≡ Ok ext → Next options received left ext
next_of options most received left ext (Err e) is enough h = absurd (let a = h in cc)
next_of options most received left ext (Ok block) is enough h =
    let others = cut_of_most most (drop (block_size left) left) in
    let o = or_ok (receive_all options received (block ∷ others.blocks)) (received_at_end options others.error) ext h in
    let p = or_ok (receive options received block) (λ more. receive_all options more others.blocks) o.0 o.1 in
    let f = first_block left block is in
    record {
      block = block;
      first = f;
      more = p.0;
      most = most;
      enough = omega (arith, enough, f.least, f.fits, length-drop (block_size left) left);
      got = p.1;
      rest = ap (λ r. error_or r (received_at_end options others.error)) p.2 ∙ o.2;
    }

next_within : (options most : ℕ) (received : Received) (x : ℕ) (xs : List ℕ) (ext : ExtensionValues) → length (x ∷ xs) ≤ most
    → extensions_of options received (cut_of_most most (x ∷ xs)) ≡ Ok ext → Next options received (x ∷ xs) ext
next_within options zero received x xs ext enough h = absurd (omega (arith, enough))
next_within options (suc most) received x xs ext enough h = next_of options most received (x ∷ xs) ext (block_in (x ∷ xs)) refl enough h

pub next : (options : ℕ) (left : List ℕ) (ext : ExtensionValues) (c : List ℕ × List ℕ) → (l : Left options left ext) → ext.context ≡ Some c → Next options l.received left ext
next options [] ext c l s = absurd (none_left options ext c l s)
next options (x ∷ xs) ext c l s = next_within options l.most l.received x xs ext l.enough l.rest

-- a block of one context says it
record Says (body : List ℕ) (more : Received) : Type 0 where
  context : List ℕ × List ℕ
  says : context_in body ≡ Ok context
  has : more.has_contexts ≡ true
  received : more.values.context ≡ Some context

one_context : (options : ℕ) (received more : Received) (body : List ℕ) → receive_kind options received (Some (SecCtx 1)) body ≡ Ok more → Says body more
one_context options received more body h =
    let o = or_ok (security_context_in 1 body) (λ context. Ok (with_context received context)) more (else_ok (not (has_flag options security_ctx) || received.has_contexts) _ _ more h) in
    let p = or_ok (context_in body) (λ context. Ok (Some context)) o.0 o.1 in
    let some : Some p.0 ≡ o.0 = same_ok _ o.0 p.2 in
    let same : with_context received o.0 ≡ more = same_ok _ more o.2 in
    record {
      context = p.0;
      says = p.1;
      has = sym (ap (λ (r : Received). r.has_contexts) same);
      received = sym (ap (λ (r : Received). r.values.context) same) ∙ sym some;
    }

-- another block says none
none_of : (nr : ℕ) (many zero_ : Bool) (body : List ℕ) (o : Option (List ℕ × List ℕ)) → nat_lt 1 nr ≡ many → (nr == 0) ≡ zero_ → nr ≢ 1
    → (if many then Err DecodeMessage else if zero_ then Ok None else error_or (context_in body) (λ context. Ok (Some context))) ≡ Ok o → o ≡ None
none_of nr true z body o m e other h = absurd (let a = h in cc)
none_of nr false true body o m e other h = sym (same_ok None o h)
none_of nr false false body o m e other h =
    let small : nr ≤ 1 = grind (arith, nat_tests, m) in
    let some : nr ≢ 0 = grind (arith, nat_tests, e) in
    absurd (other (omega (arith, small, some)))

kind_number : (n : ℕ) (below at : Bool) (nr : ℕ) → (if below then Some (SecCtx n) else if at then Some SupGroups else None) ≡ Some (SecCtx nr) → n ≡ nr
kind_number n true at nr e = let a = e in cc
kind_number n false true nr e = absurd (let a = e in cc)
kind_number n false false nr e = absurd (let a = e in cc)

no_context : (options n : ℕ) (received more : Received) (kind : Option ExtType) (body : List ℕ) → ext_type_of n ≡ kind → n ≢ 1
    → receive_kind options received kind body ≡ Ok more → received.values.context ≡ None → more.values.context ≡ None
no_context options n received more None body is other h none = absurd (let a = h in cc)
no_context options n received more (Some (SecCtx nr)) body is other h none =
    let o = or_ok (security_context_in nr body) (λ context. Ok (with_context received context)) more (else_ok (not (has_flag options security_ctx) || received.has_contexts) _ _ more h) in
    let number : n ≡ nr = kind_number n (nat_lt n 32) (n == 32) nr is in
    let same : with_context received o.0 ≡ more = same_ok _ more o.2 in
    sym (ap (λ (r : Received). r.values.context) same) ∙ none_of nr (nat_lt 1 nr) (nr == 0) body o.0 refl refl (λ e. other (number ∙ e)) o.1
no_context options n received more (Some SupGroups) body is other h none =
    let o = or_ok (group_in body) (λ group. Ok (with_group received group)) more (else_ok (not (has_flag options create_supp_group) || is_some received.values.group) _ _ more h) in
    let same : with_group received o.0 ≡ more = same_ok _ more o.2 in
    sym (ap (λ (r : Received). r.values.context) same) ∙ none

-- the blocks after one of another type
pub skipped : (options : ℕ) (left : List ℕ) (ext : ExtensionValues) (c : List ℕ × List ℕ) → Left options left ext → ext.context ≡ Some c
    → (value_of ext_header left).ext_type ≢ 1 → Left options (drop (block_size left) left) ext
skipped options left ext c l s other =
    let n = next options left ext c l s in
    record {
      received = n.more;
      most = n.most;
      enough = n.enough;
      none = no_context options n.block.ext_type l.received n.more (ext_type_of n.block.ext_type) n.block.body refl
          (λ e. other (sym n.first.type_is ∙ e)) n.got l.none;
      rest = n.rest;
    }

-- the context is in one of this type
pub stands_here : (options : ℕ) (q left : List ℕ) (at : ℕ) (ext : ExtensionValues) (c : List ℕ × List ℕ) → left ≡ drop at q → Left options left ext → ext.context ≡ Some c
    → (value_of ext_header left).ext_type ≡ 1 → ContextAt q (at + 8 + 8) c
stands_here options q left at ext c is l s one =
    let n = next options left ext c l s in
    let type_is : n.block.ext_type ≡ 1 = n.first.type_is ∙ one in
    let got : receive_kind options l.received (ext_type_of 1) n.block.body ≡ Ok n.more =
    ap (λ k. receive_kind options l.received (ext_type_of k) n.block.body) (sym type_is) ∙ n.got in
    let says = one_context options l.received n.more n.block.body got in
    let others = cut_of_most n.most (drop (block_size left) left) in
    let last : ext.context ≡ Some says.context = kept options others.error others.blocks n.more ext says.has n.rest ∙ says.received in
    let same : says.context ≡ c = let a = sym last ∙ s in cc in
    let body : n.block.body ≡ take (block_size left - 8) (drop (at + 8) q) = n.first.body_is ∙ ap (λ (xs : List ℕ). take (block_size left - 8) (drop 8 xs)) is
    ∙ ap (take (block_size left - 8)) (drop-drop 8 at q) in
    rw (sym same) (context_stands q (at + 8) (block_size left - 8) n.block.body says.context body says.says)

-- ---- where no context was agreed on

none_kind : (options : ℕ) (received more : Received) (kind : Option ExtType) (body : List ℕ) → has_flag options security_ctx ≡ false
    → receive_kind options received kind body ≡ Ok more → more.values.context ≡ received.values.context
none_kind options received more None body lacks h = absurd (let a = h in cc)
none_kind options received more (Some (SecCtx nr)) body lacks h = absurd (let a = rw lacks at h in let b = a in cc)
none_kind options received more (Some SupGroups) body lacks h =
    let o = or_ok (group_in body) (λ group. Ok (with_group received group)) more (else_ok (not (has_flag options create_supp_group) || is_some received.values.group) _ _ more h) in
    let same : with_group received o.0 ≡ more = same_ok _ more o.2 in
    sym (ap (λ (r : Received). r.values.context) same)

none_agreed : (options : ℕ) (fault : Option Error) (blocks : List Block) (received : Received) (ext : ExtensionValues) → has_flag options security_ctx ≡ false
    → error_or (receive_all options received blocks) (received_at_end options fault) ≡ Ok ext → ext.context ≡ received.values.context
none_agreed options fault [] received ext lacks h = kept_to_end options fault received ext h
none_agreed options fault (block ∷ blocks) received ext lacks h =
    let o = or_ok (receive_all options received (block ∷ blocks)) (received_at_end options fault) ext h in
    let p = or_ok (receive options received block) (λ more. receive_all options more blocks) o.0 o.1 in
    let again : error_or (receive_all options p.0 blocks) (received_at_end options fault) ≡ Ok ext = ap (λ r. error_or r (received_at_end options fault)) p.2 ∙ o.2 in
    none_agreed options fault blocks p.0 ext lacks again ∙ none_kind options received p.0 (ext_type_of block.ext_type) block.body lacks p.1

none_either : (options : ℕ) (b : Bool) (blocks : List ℕ) (ext : ExtensionValues) → has_flag options security_ctx ≡ false
    → (if b then extensions_of options nothing_received (cut_of_most (length blocks) blocks) else Ok no_extensions) ≡ Ok ext → ext.context ≡ None
none_either options true blocks ext lacks e =
    none_agreed options (cut_of_most (length blocks) blocks).error (cut_of_most (length blocks) blocks).blocks nothing_received ext lacks e
none_either options false blocks ext lacks e = sym (ap (λ (x : ExtensionValues). x.context) (same_ok no_extensions ext e))

pub no_contexts : (options : ℕ) (blocks : List ℕ) (ext : ExtensionValues) → has_flag options security_ctx ≡ false → extensions_in options blocks ≡ Ok ext → ext.context ≡ None
unfolding cut_of
no_contexts options blocks ext lacks e =
    none_either options (reads_extensions options) blocks ext lacks (sym (extensions_in-cut options blocks) ∙ e)
