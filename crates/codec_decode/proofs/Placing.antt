-- The call that a request asks for is the one that is told.
use Rattle.std.specs.Prelude.{⊤}
use Rattle.std.proofs.Common.{◌≡◌, ◌≢◌, ◌∙◌, ◌+◌, ◌-◌, ◌*◌, ◌^◌, ◌<◌, ◌≤◌, ℕ, zero, suc, Bool, true, false, if◌then◌else◌, nat_lt, List, ◌∷◌, length, position, take, drop, min, Option, None, Some, Result, Ok, Err, refl, ap, sym, arith, length-drop, length-take}
use Rattle.std.proofs.lemmas.Bool.Decides.{nat_tests}
use Rattle.std.proofs.lemmas.List.{drop-drop, drop-take, take_all}
use Rattle.std.proofs.lemmas.List.Quantifiers.{position-Some}
use Rattle.vfs_flags.specs.Flags.{has_flag}
use Rattle.vfs_flags.specs.declared.constants.TheConstants.{OPEN_KILL_SUIDGID, WRITE_CACHE, WRITE_KILL_PRIV, WRITE_LOCKOWNER}
use Rattle.vfs_flags.specs.declared.opcode.Opcode.{Opcode}
use Rattle.vfs_flags.specs.declared.opcode.Opcode.TheVariants as opcode
use Rattle.vfs_wire.specs.Records.{forget_one, in_header, out_header}
use Rattle.vfs_wire.specs.FieldLaws.{value_of-take}
use Rattle.vfs_wire.specs.Fields.{value_of}
use Rattle.vfs_wire.specs.declared.entries.ForgetOne.{ForgetOne}
use Rattle.vfs_wire.specs.declared.headers.InHeader.{InHeader}
use Rattle.vfs_wire_more.specs.declared.files.WriteIn.{WriteIn}
use Rattle.vfs_wire_more.specs.declared.names.CreateIn.{CreateIn}
use Rattle.vfs_wire_more.specs.declared.names.MkdirIn.{MkdirIn}
use Rattle.vfs_wire_more.specs.declared.names.MknodIn.{MknodIn}
use Rattle.vfs_files.specs.Calls.{Call, Readdir}
use Rattle.vfs_files.specs.Calls as call
use Rattle.vfs_files.specs.Values.{context_of, ExtensionValues}
use Rattle.vfs_grammar.specs.Ask.{form_of, if_set}
use Rattle.vfs_grammar.specs.Words.{ask_opcode, name_in, following}
use Rattle.vfs_grammar.specs.Extensions.{extensions_in}
use Rattle.vfs_grammar.specs.Forms.{Ask, Ends, Asks, Lists, WithMemory, Without, Record, refused_or, within, tail_of, two_names_in, value_in, extended_in, link_in_tail, pairs_in, pairs_of, space_after_header, Layout, layout_size, layout_record, Form, NoTail, NameTail, TwoNames, NameAndValue, NameAndExtensions, LinkAndExtensions, Pairs, WithRest, IntoRoom, Directories, Versions, Silent, NotServed, ask_form}
use Rattle.vfs_grammar.specs.Listing.{Listing}
use Rattle.vfs_grammar.specs.Reply.{Echo, echo_of}
use Rattle.vfs_grammar.specs.Records.{record_of, size_of}
use Rattle.vfs_grammar.specs.declared.limits.Limits.{Limits}
use Rattle.vfs_grammar.specs.declared.error.Error.{Error}
use Rattle.vfs_grammar.specs.declared.error.Error.TheVariants.{DecodeMessage, EncodeMessage}
use Rattle.codec_calls.specs.Shapes.{context_name_of, context_value_of, shape_of, unplaced}
use Rattle.codec_calls.specs.declared.call.CallData.{CallData}
use Rattle.codec_decode.specs.Asked.{IsContextPlaced, IsNameIn, IsTold, Stand, long_range, of_context, told_of, told_of_listing, without_places}
use Rattle.codec_decode.specs.Contexts.{may_have_context}
use Rattle.codec_decode.specs.Parts.{parts_of, with_parts, place_after}
use Rattle.codec_decode.proofs.Blocks.{no_contexts}
use Rattle.codec_decode.proofs.Cutting.{is_nul, stands_in, dropped, first_nul_in, tail_stands, name_stands, Both, BothNames, names_stand, value_stands, extended_stands, link_stands}

-- these bytes are at this place
abbrev pub Stands : (request : List ℕ) → (at : ℕ) → (bytes : List ℕ) → Type 0
Stands q at bytes = Stand q (record { at = at; len = length bytes }) bytes

-- this name is at this place
abbrev pub NameStands : (request : List ℕ) → (at : ℕ) → (name : List ℕ) → Type 0
NameStands q at name = IsNameIn q (record { at = at; len = length name }) name

-- a name, and bytes after its 0
pub record StandBoth (q : List ℕ) (at : ℕ) (first second : List ℕ) : Type 0 where
  pub front : NameStands q at first
  pub back : Stands q (at + (length first + 1)) second

-- two names, one after the other
pub record NamesStand (q : List ℕ) (at : ℕ) (first second : List ℕ) : Type 0 where
  pub front : NameStands q at first
  pub back : NameStands q (at + (length first + 1)) second

-- these pairs are spelled at this place, whole
pub record SpelledAt (q : List ℕ) (at count : ℕ) (pairs : List (ℕ × ℕ)) : Type 0 where
  pub many : length pairs ≡ count
  pub within : at + count * 16 ≤ length q
  pub spelled : pairs ≡ pairs_of count (drop at q)

-- where a record of this layout ends
abbrev pub after_record : {R : Type 0} → Layout R → ℕ
after_record layout = size_of in_header + layout_size layout

-- a fact of the call that is asked for, or of the directory that is to be read
abbrev pub OfCall : (Echo → Call → Type 0) → (Echo → Listing → Type 0) → Ask → Type 0
OfCall P L (Ends reply) = ⊤
OfCall P L (Asks echo call) = P echo call
OfCall P L (Lists echo l) = L echo l
OfCall P L (WithMemory rest) = OfCall P L rest

pairs_of-take : (count : ℕ) (left : List ℕ) → count * 16 ≤ length left → pairs_of count (take (count * 16) left) ≡ pairs_of count left
pairs_of-take zero left h = refl
pairs_of-take (suc n) left h =
    let k : suc n * 16 ≡ 16 + n * 16 = omega arith in
    let front : value_of forget_one (take (suc n * 16) left) ≡ value_of forget_one left = value_of-take forget_one (suc n * 16) left (omega (arith, k)) in
    let back : drop 16 (take (suc n * 16) left) ≡ take (n * 16) (drop 16 left) = ap (λ (m : ℕ). drop 16 (take m left)) k ∙ drop-take 16 (n * 16) left in
    let rest = pairs_of-take n (drop 16 left) (omega (arith, h, k, length-drop 16 left)) in
    ap (λ (one : ForgetOne). (one.nodeid, one.nlookup) ∷ pairs_of n (drop 16 (take (suc n * 16) left))) front
    ∙ ap (λ (l : List (ℕ × ℕ)). ((value_of forget_one left).nodeid, (value_of forget_one left).nlookup) ∷ l) (ap (pairs_of n) back ∙ rest)

length-pairs_of : (count : ℕ) (bytes : List ℕ) → length (pairs_of count bytes) ≡ count
length-pairs_of zero bytes = refl
length-pairs_of (suc n) bytes = ap suc (length-pairs_of n (drop 16 bytes))

-- a header that is whole lies within the request
header_in : (short : Bool) (long : ℕ) (v r : InHeader) → nat_lt long (size_of in_header) ≡ short
    → (if short then Err DecodeMessage else Ok v) ≡ Ok r → size_of in_header ≤ long
header_in true long v r b e = absurd (let a = e in cc)
header_in false long v r b e = grind (arith, nat_tests, b)

pub header_fits : (q : List ℕ) (h : InHeader) → record_of in_header q ≡ Ok h → size_of in_header ≤ length q
header_fits q h e = header_in (nat_lt (length q) (size_of in_header)) (length q) (value_of in_header q) h refl e

-- ---- parts of a request

module _ (q : List ℕ) (h : InHeader) (head : size_of in_header ≤ length q) (P : Echo → Call → Type 0) (L : Echo → Listing → Type 0) where
  -- what is to be shown of the call of a form
  abbrev pub Shown : Form → Type 0
  Shown (NoTail {R} layout above call) = (r : R) → P (echo_of h) (call r)
  Shown (NameTail {R} layout above call) =
      (r : R) (name : List ℕ) → NameStands q (after_record layout) name → P (echo_of h) (call r name)
  Shown (TwoNames {R} layout call) =
      (r : R) (first second : List ℕ) → NamesStand q (after_record layout) first second → P (echo_of h) (call r first second)
  Shown (NameAndValue {R} layout size call) =
      (r : R) (name value : List ℕ) → StandBoth q (after_record layout) name value → P (echo_of h) (call r name value)
  Shown (NameAndExtensions {R} layout options call) =
      (r : R) (name : List ℕ) (ext : ExtensionValues) (tail : List ℕ) → tail_of h (layout_size layout) (following layout (drop (size_of in_header) q)) ≡ Ok tail
      → NameStands q (after_record layout) name → length name < length tail → extensions_in options (drop (length name + 1) tail) ≡ Ok ext → P (echo_of h) (call r name ext)
  Shown (LinkAndExtensions {R} layout options call) =
      (r : R) (name text : List ℕ) (ext : ExtensionValues) (tail : List ℕ) → tail_of h (layout_size layout) (following layout (drop (size_of in_header) q)) ≡ Ok tail
      → NamesStand q (after_record layout) name text → length text < length (drop (length name + 1) tail)
      → extensions_in options (drop (length text + 1) (drop (length name + 1) tail)) ≡ Ok ext → P (echo_of h) (call r name text ext)
  Shown (Pairs {R} layout above count call) =
      (r : R) (pairs : List (ℕ × ℕ)) → SpelledAt q (after_record layout) (count r) pairs → P (echo_of h) (call r pairs)
  Shown (WithRest {R} layout call) = (r : R) → after_record layout ≤ length q → P (echo_of h) (call r (drop (after_record layout) q))
  Shown (IntoRoom {R} layout space call) = (r : R) → P (echo_of h) (call r (space - size_of out_header))
  Shown (Directories {R} layout above space listing) = (r : R) (n : ℕ) → L (echo_of h) (listing r n)
  Shown Versions = ⊥
  Shown Silent = ⊤
  Shown NotServed = ⊤

  abbrev Of : Ask → Type 0
  Of a = OfCall P L a

  part : {A : Type 0} (r : Result A Error) (next : A → Ask) → ((x : A) → r ≡ Ok x → Of (next x)) → Of (refused_or r next)
  part (Err e) next p = tt {0}
  part (Ok x) next p = p x refl

  limit : (above : Bool) (next : Ask) → Of next → Of (within above h next)
  limit true next p = tt {0}
  limit false next p = p

  abbrev rest : List ℕ
  rest = drop (size_of in_header) q

  pub place : {R : Type 0} (layout : Layout R) → following layout rest ≡ drop (after_record layout) q
  place layout = drop-drop (layout_size layout) (size_of in_header) q

  -- a record that is whole ends within the request
  whole_table : (short : Bool) (size long : ℕ) {R : Type 0} (v r : R) → nat_lt long size ≡ short
      → (if short then Err DecodeMessage else Ok v) ≡ Ok r → size ≤ long
  whole_table true size long v r b e = absurd (let a = e in cc)
  whole_table false size long v r b e = grind (arith, nat_tests, b)

  layout_fits : {R : Type 0} (layout : Layout R) (r : R) → layout_record layout rest ≡ Ok r → layout_size layout ≤ length rest
  layout_fits (Without v) r e = omega arith
  layout_fits (Record t) r e = whole_table (nat_lt (length rest) (size_of t)) (size_of t) (length rest) (value_of t rest) r refl e

  pub ends : {R : Type 0} (layout : Layout R) (r : R) → layout_record layout rest ≡ Ok r → after_record layout ≤ length q
  ends layout r e = omega (arith, head, layout_fits layout r e, length-drop (size_of in_header) q)

  -- a tail ends within the request
  pub tail_ends : {R : Type 0} (layout : Layout R) (tail : List ℕ) → after_record layout ≤ length q
      → tail_of h (layout_size layout) (following layout rest) ≡ Ok tail → after_record layout + length tail ≤ length q
  tail_ends layout tail end whole =
      let t = tail_stands h (layout_size layout) (following layout rest) tail whole in
      omega (arith, end, ap length t.1, length-take t.0 (following layout rest), ap length (place layout), length-drop (after_record layout) q)

  -- the first name of the tail comes after the record
  first_stands : {R : Type 0} (layout : Layout R) (tail x : List ℕ) (a : ℕ) → after_record layout ≤ length q
      → tail_of h (layout_size layout) (following layout rest) ≡ Ok tail → x ≡ take a tail → position is_nul tail ≡ Some (length x)
      → NameStands q (after_record layout) x
  first_stands layout tail x a end whole e ends =
      let t = tail_stands h (layout_size layout) (following layout rest) tail whole in
      record {
        within = omega (arith, tail_ends layout tail end whole, (position-Some is_nul tail (length x) 0 ends).0);
        bytes_are = sym (stands_in a t.0 x (following layout rest) (e ∙ ap (take a) t.1) ∙ ap (take (length x)) (place layout));
        ended = ap (position is_nul) (sym (place layout))
            ∙ first_nul_in t.0 (following layout rest) (length x) (ap (position is_nul) (sym t.1) ∙ ends);
      }

  both_stand : {R : Type 0} (layout : Layout R) (tail first second : List ℕ) → after_record layout ≤ length q
      → tail_of h (layout_size layout) (following layout rest) ≡ Ok tail
      → Both tail first second → StandBoth q (after_record layout) first second
  both_stand layout tail first second end whole b =
      let t = tail_stands h (layout_size layout) (following layout rest) tail whole in
      let d = length first + 1 in
      let k = dropped d t.0 (following layout rest) in
      let e : second ≡ take b.n (take k.0 (drop d (following layout rest))) = b.second_is ∙ ap (λ (xs : List ℕ). take b.n (drop d xs)) t.1 ∙ ap (take b.n) k.1 in
      let s = stands_in b.n k.0 second (drop d (following layout rest)) e in
      let at : drop d (following layout rest) ≡ drop (after_record layout + d) q =
      ap (drop d) (place layout) ∙ drop-drop d (after_record layout) q in
      let long = tail_ends layout tail end whole in
      record {
        front = first_stands layout tail first (length first) end whole b.first_is b.ended;
        back = record {
          within = omega (arith, b.within, long, ap length b.second_is, length-take b.n (drop d tail), length-drop d tail);
          bytes_are = sym (s ∙ ap (take (length second)) at);
        };
      }

  names_stand_in : {R : Type 0} (layout : Layout R) (tail first second : List ℕ) → after_record layout ≤ length q
      → tail_of h (layout_size layout) (following layout rest) ≡ Ok tail
      → BothNames tail first second → NamesStand q (after_record layout) first second
  names_stand_in layout tail first second end whole b =
      let t = tail_stands h (layout_size layout) (following layout rest) tail whole in
      let d = length first + 1 in
      let k = dropped d t.0 (following layout rest) in
      let at : drop d (following layout rest) ≡ drop (after_record layout + d) q =
      ap (drop d) (place layout) ∙ drop-drop d (after_record layout) q in
      let cut : take k.0 (drop d (following layout rest)) ≡ drop d tail = sym (ap (drop d) t.1 ∙ k.1) in
      let s = both_stand layout tail first second end whole b.parts in
      let last = (position-Some is_nul (drop d tail) (length second) 0 b.ended).0 in
      record {
        front = s.front;
        back = record {
          within = omega (arith, b.parts.within, tail_ends layout tail end whole, last, length-drop d tail);
          bytes_are = s.back.bytes_are;
          ended = ap (position is_nul) (sym at)
              ∙ first_nul_in k.0 (drop d (following layout rest)) (length second) (ap (position is_nul) cut ∙ b.ended);
        };
      }

  spelled_in : (short : Bool) (count : ℕ) (bytes : List ℕ) (pairs : List (ℕ × ℕ)) → nat_lt (length bytes) (count * 16) ≡ short
      → (if short then Err DecodeMessage else Ok (pairs_of count bytes)) ≡ Ok pairs
      → (count * 16 ≤ length bytes) × (pairs ≡ pairs_of count bytes)
  spelled_in true count bytes pairs b e = absurd (let a = e in cc)
  spelled_in false count bytes pairs b e = (grind (arith, nat_tests, b), let a = e in cc)

  pairs_spell : {R : Type 0} (layout : Layout R) (count : ℕ) (pairs : List (ℕ × ℕ)) → after_record layout ≤ length q → pairs_in count (following layout rest) ≡ Ok pairs
      → SpelledAt q (after_record layout) count pairs
  pairs_spell layout count pairs end e =
      let s = spelled_in (nat_lt (length (following layout rest)) (count * 16)) count (following layout rest) pairs refl e in
      record {
        many = ap length s.1 ∙ length-pairs_of count (following layout rest);
        within = omega (arith, end, s.0, ap length (place layout), length-drop (after_record layout) q);
        spelled = s.1 ∙ ap (pairs_of count) (place layout);
      }

  after_header : (b : Bool) (space n : ℕ) → (if b then Err EncodeMessage else Ok (space - size_of out_header)) ≡ Ok n → n ≡ space - size_of out_header
  after_header true space n e = absurd (let a = e in cc)
  after_header false space n e = let a = e in cc

  pub form_shown : (form : Form) → Shown form → Of (ask_form h rest form)
  form_shown (NoTail layout above call) s =
      part (layout_record layout rest) _ (λ r is. limit (above r) _ (s r))
  form_shown (NameTail layout above call) s =
      part (layout_record layout rest) _ (λ r is. part (tail_of h (layout_size layout) (following layout rest)) _ (λ tail whole.
      limit (above r) _ (part (name_in tail) _ (λ name found. let n = name_stands tail name found in s r name (first_stands layout tail name n.i (ends layout r is) whole n.name_is n.ended)))))
  form_shown (TwoNames layout call) s =
      part (layout_record layout rest) _ (λ r is. part (tail_of h (layout_size layout) (following layout rest)) _ (λ tail whole.
      part (two_names_in tail) _ (λ x found. s r x.0 x.1 (names_stand_in layout tail x.0 x.1 (ends layout r is) whole (names_stand tail x found)))))
  form_shown (NameAndValue layout size call) s =
      part (layout_record layout rest) _ (λ r is. part (tail_of h (layout_size layout) (following layout rest)) _ (λ tail whole.
      part (value_in (size r) tail) _ (λ x found. s r x.0 x.1 (both_stand layout tail x.0 x.1 (ends layout r is) whole (value_stands (size r) tail x found)))))
  form_shown (NameAndExtensions layout options call) s =
      part (layout_record layout rest) _ (λ r is. part (tail_of h (layout_size layout) (following layout rest)) _ (λ tail whole.
      part (extended_in options tail) _ (λ x found. let n = extended_stands options tail x found in s r x.0 x.1 tail whole (first_stands layout tail x.0 n.i (ends layout r is) whole n.name_is n.ended) n.within n.says)))
  form_shown (LinkAndExtensions layout options call) s =
      part (layout_record layout rest) _ (λ r is. part (tail_of h (layout_size layout) (following layout rest)) _ (λ tail whole.
      part (link_in_tail options tail) _ (λ x found. let n = link_stands options tail x found in s r x.0 x.1 x.2 tail whole (names_stand_in layout tail x.0 x.1 (ends layout r is) whole n.parts) n.within n.says)))
  form_shown (Pairs layout above count call) s =
      part (layout_record layout rest) _ (λ r is. limit (above r) _ (part (pairs_in (count r) (following layout rest)) _ (λ pairs whole. s r pairs (pairs_spell layout (count r) pairs (ends layout r is) whole))))
  form_shown (WithRest layout call) s =
      part (layout_record layout rest) _ (λ r is. rw (place layout) (s r (ends layout r is)))
  form_shown (IntoRoom layout space call) s =
      part (layout_record layout rest) _ (λ r is. part (space_after_header space) _ (λ n fits. rw (after_header (nat_lt space (size_of out_header)) space n fits) (s r)))
  form_shown (Directories layout above space listing) s =
      part (layout_record layout rest) _ (λ r is. limit (above r) _ (part (space_after_header space) _ (λ n fits. s r n)))
  form_shown Versions s = absurd s
  form_shown Silent s = tt {0}
  form_shown NotServed s = tt {0}

-- ---- what is told

module _ (q : List ℕ) (h : InHeader) (options space len : ℕ) where
  -- a noted call with what is told besides
  abbrev pub told : Opcode → CallData → CallData
  told o c = with_parts len space (parts_of options o) (record c { unique = h.unique; options = options; room = space })

  abbrev pub CallIsTold : Opcode → Echo → Call → Type 0
  CallIsTold o echo call = IsTold q options space echo call (told o (shape_of call))

  abbrev pub ListingIsTold : Opcode → Echo → Listing → Type 0
  ListingIsTold o echo l =
      told o (shape_of (Readdir l.ctx l.parent l.handle l.size l.offset)) ≡ told_of_listing options space echo l

module _ (q : List ℕ) (h : InHeader) (head : size_of in_header ≤ length q) (limits : Limits) (options space len : ℕ) (long : length q ≡ len) (small : len < 2 ^ 64) where
  abbrev CallIs : Opcode → Echo → Call → Type 0
  CallIs = CallIsTold q h options space len

  abbrev ListingIs : Opcode → Echo → Listing → Type 0
  ListingIs = ListingIsTold q h options space len

  -- the place of the second part
  second_place : (at n : ℕ) (first : List ℕ) → at + (length first + 1) + n ≤ length q → place_after at (unplaced first) ≡ at + (length first + 1)
  second_place at n first within = omega (arith, within, long, small)

  second : (at : ℕ) (one other : List ℕ) → StandBoth q at one other → Stands q (place_after at (unplaced one)) other
  second at one other b = rw (second_place at (length other) one b.back.within) b.back

  second_name : (at : ℕ) (one other : List ℕ) → NamesStand q at one other → NameStands q (place_after at (unplaced one)) other
  second_name at one other b = rw (second_place at (length other) one (omega (arith, b.back.within))) b.back

  rest_is : (at : ℕ) → length (drop at q) ≡ len - at
  rest_is at = omega (arith, length-drop at q, long)

  all_rest : (at : ℕ) → take (len - at) (drop at q) ≡ drop at q
  all_rest at = take_all (len - at) (drop at q) (omega (arith, rest_is at))

  -- with a value of this length
  sized : (c : CallData) (m n : ℕ) → m ≡ n
      → record c { «data» = record { at = 0; len = m } } ≡ record c { «data» = record { at = 0; len = n } }
  sized c m n e = ap (λ k. record c { «data» = record { at = 0; len = k } }) e

  abbrev write_of : WriteIn → Call
  write_of r =
      call.Write (context_of h) h.nodeid r.fh (drop 80 q) r.size r.offset
      (if_set r.write_flags WRITE_LOCKOWNER r.lock_owner) (has_flag r.write_flags WRITE_CACHE)
      (has_flag r.write_flags WRITE_KILL_PRIV) r.flags

  write_told : (r : WriteIn) → 80 ≤ length q → CallIs opcode.Write (echo_of h) (write_of r)
  write_told r end = record {
    numbers = sized (told_of options space (echo_of h) (write_of r)) (len - 80) (length (drop 80 q)) (sym (rest_is 80));
    places = record { within = omega (arith, end, long); bytes_are = all_rest 80 };
    others = refl;
  }

  pairs_told : (count : ℕ) (pairs : List (ℕ × ℕ)) → SpelledAt q 48 count pairs
      → CallIs opcode.BatchForget (echo_of h) (call.BatchForget (context_of h) pairs)
  pairs_told count pairs s =
      let size : min (length pairs * 16) (2 ^ 64 - 1) ≡ length pairs * 16 = omega (arith, s.many, s.within, long, small) in
      let all : length pairs * 16 ≡ count * 16 = ap (λ (n : ℕ). n * 16) s.many in
      record {
        numbers = sized (told_of options space (echo_of h) (call.BatchForget (context_of h) pairs)) _ _ size;
        places = record {
          within = omega (arith, s.within, size, all);
          pairs_are = ap (λ (n : ℕ). pairs_of (length pairs) (take n (drop 48 q))) (size ∙ all)
              ∙ ap (λ (n : ℕ). pairs_of n (take (count * 16) (drop 48 q))) s.many
              ∙ pairs_of-take count (drop 48 q) (omega (arith, s.within, length-drop 48 q)) ∙ sym s.spelled;
        };
        others = refl;
      }

  -- a context's ranges without their places
  contexts : (c : CallData) (context : Option (List ℕ × List ℕ))
      → record c { context_name = long_range (context_name_of context); context = long_range (context_value_of context) }
      ≡ record c { context_name = context_name_of context; context = context_value_of context }
  contexts c None = refl
  contexts c (Some context) = refl

  abbrev symlink_of : (name text : List ℕ) → ExtensionValues → Call
  symlink_of name text ext = call.Symlink (context_of h) text h.nodeid name ext

  abbrev mknod_of : MknodIn → (name : List ℕ) → ExtensionValues → Call
  mknod_of r name ext = call.Mknod (context_of h) h.nodeid name r.mode r.rdev r.umask ext

  abbrev mkdir_of : MkdirIn → (name : List ℕ) → ExtensionValues → Call
  mkdir_of r name ext = call.Mkdir (context_of h) h.nodeid name r.mode r.umask ext

  abbrev create_of : CreateIn → (name : List ℕ) → ExtensionValues → Call
  create_of r name ext =
      call.Create (context_of h) h.nodeid name r.mode (has_flag r.open_flags OPEN_KILL_SUIDGID) r.flags r.umask ext

  -- the numbers of a call with extensions
  extended_numbers : (call : Call) (ext : ExtensionValues)
      → without_places (told_of options space (echo_of h) call)
      ≡ record (told_of options space (echo_of h) call) {
        context_name = long_range (context_name_of ext.context);
        context = long_range (context_value_of ext.context);
      }
      → told_of options space (echo_of h) call
      ≡ record (told_of options space (echo_of h) call) {
        context_name = context_name_of ext.context;
        context = context_value_of ext.context;
      }
      → without_places (told_of options space (echo_of h) call) ≡ told_of options space (echo_of h) call
  extended_numbers call ext e f = e ∙ contexts (told_of options space (echo_of h) call) ext.context ∙ sym f

  -- a context's ranges are kept where there is one
  extended_ranges : (c : CallData) (context : Option (List ℕ × List ℕ))
      → record c { context_name = context_name_of context; context = context_value_of context }
      ≡ record c {
        context_name = of_context context (context_name_of context);
        context = of_context context (context_value_of context);
      }
  extended_ranges c None = refl
  extended_ranges c (Some context) = refl

  -- none was agreed on
  none_placed : (context : Option (List ℕ × List ℕ)) (c : CallData) → context ≡ None → IsContextPlaced q context c
  none_placed None c e = tt {0}
  none_placed (Some context) c e = absurd (let a = e in cc)

  table : (o : Opcode) → o ≢ opcode.Init → o ≢ opcode.Readdir → o ≢ opcode.Readdirplus → may_have_context options o ≡ false → Shown q h head (CallIs o) (ListingIs o) (form_of limits options space h o)
  table opcode.Lookup not_init not_readdir not_plus lacks = λ r name s. record { numbers = refl; places = s; others = refl }
  table opcode.Symlink not_init not_readdir not_plus lacks = λ r name text ext tail whole s within says. record {
    numbers = extended_numbers (symlink_of name text ext) ext refl refl;
    places = (s.front, second_name 40 name text s, none_placed ext.context _ (no_contexts options _ ext lacks says));
    others = extended_ranges (told q h options space len opcode.Symlink (shape_of (symlink_of name text ext))) ext.context;
  }
  table opcode.Mknod not_init not_readdir not_plus lacks = λ r name ext tail whole s within says. record {
    numbers = extended_numbers (mknod_of r name ext) ext refl refl;
    places = (s, none_placed ext.context _ (no_contexts options _ ext lacks says));
    others = extended_ranges (told q h options space len opcode.Mknod (shape_of (mknod_of r name ext))) ext.context;
  }
  table opcode.Mkdir not_init not_readdir not_plus lacks = λ r name ext tail whole s within says. record {
    numbers = extended_numbers (mkdir_of r name ext) ext refl refl;
    places = (s, none_placed ext.context _ (no_contexts options _ ext lacks says));
    others = extended_ranges (told q h options space len opcode.Mkdir (shape_of (mkdir_of r name ext))) ext.context;
  }
  table opcode.Unlink not_init not_readdir not_plus lacks = λ r name s. record { numbers = refl; places = s; others = refl }
  table opcode.Rmdir not_init not_readdir not_plus lacks = λ r name s. record { numbers = refl; places = s; others = refl }
  table opcode.Rename not_init not_readdir not_plus lacks = λ r old new s. record { numbers = refl; places = (s.front, second_name _ old new s); others = refl }
  table opcode.Link not_init not_readdir not_plus lacks = λ r name s. record { numbers = refl; places = s; others = refl }
  table opcode.Write not_init not_readdir not_plus lacks = λ r end. write_told r end
  table opcode.Setxattr not_init not_readdir not_plus lacks = λ r name value s. record { numbers = refl; places = (s.front, second _ name value s); others = refl }
  table opcode.Getxattr not_init not_readdir not_plus lacks = λ r name s. record { numbers = refl; places = s; others = refl }
  table opcode.Removexattr not_init not_readdir not_plus lacks = λ r name s. record { numbers = refl; places = s; others = refl }
  table opcode.Init not_init not_readdir not_plus lacks = absurd (not_init refl)
  table opcode.Readdir not_init not_readdir not_plus lacks = absurd (not_readdir refl)
  table opcode.Create not_init not_readdir not_plus lacks = λ r name ext tail whole s within says. record {
    numbers = extended_numbers (create_of r name ext) ext refl refl;
    places = (s, none_placed ext.context _ (no_contexts options _ ext lacks says));
    others = extended_ranges (told q h options space len opcode.Create (shape_of (create_of r name ext))) ext.context;
  }
  table opcode.Interrupt not_init not_readdir not_plus lacks = tt {0}
  table opcode.BatchForget not_init not_readdir not_plus lacks = λ r pairs s. pairs_told r.count pairs s
  table opcode.Readdirplus not_init not_readdir not_plus lacks = absurd (not_plus refl)
  table opcode.Rename2 not_init not_readdir not_plus lacks = λ r old new s. record { numbers = refl; places = (s.front, second_name _ old new s); others = refl }
  table opcode.SetupMapping not_init not_readdir not_plus lacks = tt {0}
  table opcode.RemoveMapping not_init not_readdir not_plus lacks = tt {0}
  table _ not_init not_readdir not_plus lacks = λ r. record { numbers = refl; places = tt {0}; others = refl }

  -- the call or the listing that the bytes after a header ask for is told
  pub told_by_opcode : (o : Opcode) → o ≢ opcode.Init → o ≢ opcode.Readdir → o ≢ opcode.Readdirplus → may_have_context options o ≡ false
      → OfCall (CallIs o) (ListingIs o) (ask_opcode limits options space o h (drop (size_of in_header) q))
  told_by_opcode o not_init not_readdir not_plus lacks = form_shown q h head (CallIs o) (ListingIs o) (form_of limits options space h o) (table o not_init not_readdir not_plus lacks)
