-- A call with a context is told with the places of its name and its value.
use Rattle.std.proofs.Common.{◌≡◌, ◌∙◌, ◌+◌, ◌-◌, ◌^◌, ◌<◌, ◌≤◌, ◌==◌, ℕ, true, false, List, length, position, take, drop, Option, None, Some, Result, Ok, Err, refl, ap, sym, subst, inl, inr, arith, length-drop, length-take}
use Rattle.std.proofs.lemmas.Bool.Decides.{nat_tests}
use Rattle.std.proofs.lemmas.List.{drop-drop}
use Rattle.vfs_flags.specs.Flags.{has_flag}
use Rattle.vfs_flags.specs.declared.constants.TheConstants.{OPEN_KILL_SUIDGID}
use Rattle.vfs_flags.specs.declared.opcode.Opcode.{Opcode}
use Rattle.vfs_flags.specs.declared.opcode.Opcode.TheVariants as opcode
use Rattle.vfs_segments.specs.Written.{Written}
use Rattle.vfs_wire.specs.Records.{in_header}
use Rattle.vfs_wire.specs.declared.headers.InHeader.{InHeader}
use Rattle.vfs_wire_more.specs.Records.{create_in, mkdir_in, mknod_in}
use Rattle.vfs_wire_more.specs.declared.names.CreateIn.{CreateIn}
use Rattle.vfs_wire_more.specs.declared.names.MkdirIn.{MkdirIn}
use Rattle.vfs_wire_more.specs.declared.names.MknodIn.{MknodIn}
use Rattle.vfs_files.specs.Calls.{Call}
use Rattle.vfs_files.specs.Calls as call
use Rattle.vfs_files.specs.Values.{context_of, ExtensionValues}
use Rattle.vfs_grammar.specs.Ask.{form_of}
use Rattle.vfs_grammar.specs.Words.{ask_opcode}
use Rattle.vfs_grammar.specs.Extensions.{error_or, extensions_in}
use Rattle.vfs_grammar.specs.Forms.{Ask, Ends, Asks, Lists, WithMemory, refused_or, tail_of}
use Rattle.vfs_grammar.specs.Listing.{Listing}
use Rattle.vfs_grammar.specs.Records.{record_of, size_of}
use Rattle.vfs_grammar.specs.Reply.{Echo, echo_of}
use Rattle.vfs_grammar.specs.declared.error.Error.{Error}
use Rattle.vfs_grammar.specs.declared.limits.Limits.{Limits}
use Rattle.codec_calls.specs.Shapes.{nothing, shape_of, unplaced}
use Rattle.codec_calls.specs.declared.call.CallData.{CallData}
use Rattle.vfs_server.specs.MemoryByPieces.{MayWantAfter}
use Rattle.codec_decode.specs.Asked.{IsNameIn, IsTold, Stand, Tells}
use Rattle.codec_decode.specs.Contexts.{ContextAt, GivesTailOf, PlacesContext, StandsInBlocks, blocks_of, blocks_place, may_have_context, sum_or_most, tail_after, with_context_at}
use Rattle.codec_decode.specs.Noting.{IsNoted, NotedAndTold}
use Rattle.codec_decode.specs.Parts.{place_after, told_with}
use Rattle.codec_decode.specs.declared.asked.Asked.{Asked}
use Rattle.codec_decode.specs.declared.asked.Asked.TheVariants as asked
use Rattle.codec_decode.proofs.Cutting.{dropped, first_nul_in, is_nul, or_ok, same_ok, stands_in, tail_stands}
use Rattle.codec_decode.proofs.Placing.{NamesStand, NameStands, OfCall, form_shown}
use Rattle.codec_decode.proofs.Telling.{finished_where_none, none_is_nothing}

-- one of the four opcodes whose requests may have a context
of_four : (P : Opcode → Type 0) → P opcode.Symlink → P opcode.Mknod → P opcode.Mkdir → P opcode.Create → (options : ℕ) (o : Opcode)
    → may_have_context options o ≡ true → P o
of_four P symlink mknod mkdir create options opcode.Symlink may = symlink
of_four P symlink mknod mkdir create options opcode.Mknod may = mknod
of_four P symlink mknod mkdir create options opcode.Mkdir may = mkdir
of_four P symlink mknod mkdir create options opcode.Create may = create
of_four P symlink mknod mkdir create options _ may = absurd (let a = may in cc)

-- ---- a tail that is refused

module _ (wanted : Type 0) (q : List ℕ) (options room : ℕ) (writer : Written) (e : Error) where
  abbrev Refused : Ask → Type 0
  Refused a = Tells wanted q options 0 room a writer (asked.Finished (Err e) 0) writer nothing

  refused_tail : wanted → (t : Result (List ℕ) Error) (next : List ℕ → Ask) → GivesTailOf (Err e) t → Refused (refused_or t (λ tail. WithMemory (next tail)))
  refused_tail may (Err f) next (inl is) = let same : e ≡ f = let a = is in cc in ((ap Err same, refl), refl, refl)
  refused_tail may (Err f) next (inr x) = absurd (let a = x.1 in cc)
  refused_tail may (Ok tail) next (inl is) = absurd (let a = is in cc)
  refused_tail may (Ok tail) next (inr x) = inr (may, ((ap Err x.2, refl), refl, refl))

  refused_record : {R : Type 0} → wanted → (r : Result R Error) (tail_in : R → Result (List ℕ) Error) (next : R → List ℕ → Ask)
      → GivesTailOf (Err e) (error_or r tail_in) → Refused (refused_or r (λ x. refused_or (tail_in x) (λ tail. WithMemory (next x tail))))
  refused_record may (Err f) tail_in next (inl is) = let same : e ≡ f = let a = is in cc in ((ap Err same, refl), refl, refl)
  refused_record may (Err f) tail_in next (inr x) = absurd (let a = x.1 in cc)
  refused_record may (Ok x) tail_in next g = refused_tail may (tail_in x) (next x) g

  pub refused_with_tail : wanted → (limits : Limits) (space : ℕ) (h : InHeader) (rest : List ℕ) (o : Opcode) → may_have_context options o ≡ true
      → GivesTailOf (Err e) (tail_after o h rest) → Refused (ask_opcode limits options space o h rest)
  refused_with_tail wants limits space h rest o may =
      of_four (λ o. GivesTailOf (Err e) (tail_after o h rest) → Refused (ask_opcode limits options space o h rest))
      (λ g. refused_tail wants (tail_of h 0 rest) _ g)
      (λ g. refused_record wants (record_of mknod_in rest) _ _ g)
      (λ g. refused_record wants (record_of mkdir_in rest) _ _ g)
      (λ g. refused_record wants (record_of create_in rest) _ _ g)
      options o may

-- for a request that may have a context memory may always be wanted
pub context_wants_memory : (limits : Limits) (options space : ℕ) (h : InHeader) (pieces : List ℕ) (o : Opcode) → may_have_context options o ≡ true
    → MayWantAfter limits options space (Some o) h pieces
context_wants_memory limits options space h pieces o may =
    of_four (λ o. may_have_context options o ≡ true → MayWantAfter limits options space (Some o) h pieces)
    (λ is. inr is) (λ is. inr is) (λ is. inr is) (λ is. inr is) options o may may

some_length : (n : ℕ) → 0 < n → (n == 0) ≡ false
some_length n some = grind (arith, nat_tests, some)

-- ---- a context that is placed

module _ (q : List ℕ) (h : InHeader) (head : size_of in_header ≤ length q) (limits : Limits) (options space len : ℕ) (long : length q ≡ len) (small : len < 2 ^ 64) where
  abbrev with_parts_told : Opcode → CallData → CallData
  with_parts_told o c = told_with h.unique options space len o c

  -- the call with its context is told
  abbrev pub CallHas : Opcode → (tail : List ℕ) → Echo → Call → Type 0
  CallHas o tail echo c =
      (place : ℕ) → StandsInBlocks (blocks_of o (with_parts_told o (shape_of c)) tail) place
      → IsTold q options space echo c (with_context_at (sum_or_most (blocks_place o (with_parts_told o (shape_of c))) place) (with_parts_told o (shape_of c)))

  tail_long : (at : ℕ) (tail : List ℕ) (n : ℕ) → tail ≡ take n (drop at q) → length tail ≤ length q - at
  tail_long at tail n is = omega (arith, ap length is, length-take n (drop at q), length-drop at q)

  name_end : (at : ℕ) (name tail : List ℕ) (n : ℕ) → tail ≡ take n (drop at q) → length name < length tail → place_after at (unplaced name) ≡ at + (length name + 1)
  name_end at name tail n is within = omega (arith, tail_long at tail n is, within, long, small)

  skip : (at : ℕ) (name tail : List ℕ) (n : ℕ) → tail ≡ take n (drop at q) → length name < length tail
      → drop (place_after at (unplaced name) - at) tail ≡ drop (length name + 1) tail
  skip at name tail n is within = ap (λ k. drop k tail) (omega (arith, name_end at name tail n is within))

  -- what is in the end of a tail is in the request
  stand_after : (at : ℕ) (blocks : List ℕ) (k place : ℕ) (xs : List ℕ) → blocks ≡ take k (drop at q) → 0 < length blocks
      → Stand blocks (record { at = place; len = length xs }) xs → Stand q (record { at = at + place; len = length xs }) xs
  stand_after at blocks k place xs is some s =
      let all : length blocks ≤ length q - at = omega (arith, ap length is, length-take k (drop at q), length-drop at q) in
      let d = dropped place k (drop at q) in
      let e : xs ≡ take (length xs) (take d.0 (drop place (drop at q))) =
      sym s.bytes_are ∙ ap (λ (ys : List ℕ). take (length xs) (drop place ys)) is ∙ ap (take (length xs)) d.1 in
      record {
        within = omega (arith, s.within, all, some);
        bytes_are = sym (stands_in (length xs) d.0 xs (drop place (drop at q)) e ∙ ap (take (length xs)) (drop-drop place at q));
      }

  -- a name too
  name_after : (at : ℕ) (blocks : List ℕ) (k place : ℕ) (xs : List ℕ) → blocks ≡ take k (drop at q)
      → IsNameIn blocks (record { at = place; len = length xs }) xs → IsNameIn q (record { at = at + place; len = length xs }) xs
  name_after at blocks k place xs is s =
      let all : length blocks ≤ length q - at = omega (arith, ap length is, length-take k (drop at q), length-drop at q) in
      let d = dropped place k (drop at q) in
      let stands = stand_after at blocks k place xs is (omega (arith, s.within))
      (record { within = omega (arith, s.within); bytes_are = s.bytes_are }) in
      record {
        within = omega (arith, s.within, all);
        bytes_are = stands.bytes_are;
        ended = ap (position is_nul) (sym (drop-drop place at q))
            ∙ first_nul_in d.0 (drop place (drop at q)) (length xs) (ap (position is_nul) (sym (ap (drop place) is ∙ d.1)) ∙ s.ended);
      }

  context_placed : (at : ℕ) (name tail : List ℕ) (n : ℕ) → tail ≡ take n (drop at q) → length name < length tail → (place : ℕ) (c : List ℕ × List ℕ)
      → ContextAt (drop (length name + 1) tail) place c
      → IsNameIn q (record { at = sum_or_most (place_after at (unplaced name)) place; len = length c.0 }) c.0
      × Stand q (record { at = place_after (sum_or_most (place_after at (unplaced name)) place) (unplaced c.0); len = length c.1 }) c.1
  context_placed at name tail n is within place c there =
      let d = length name + 1 in
      let k = dropped d n (drop at q) in
      let blocks : drop d tail ≡ take k.0 (drop (at + d) q) = ap (drop d) is ∙ k.1 ∙ ap (take k.0) (drop-drop d at q) in
      let long_blocks : length (drop d tail) ≤ length q - (at + d) = omega (arith, ap length blocks, length-take k.0 (drop (at + d) q), length-drop (at + d) q) in
      let some : 0 < length (drop d tail) = omega (arith, there.value.within, there.some) in
      let first : sum_or_most (place_after at (unplaced name)) place ≡ at + d + place =
      omega (arith, name_end at name tail n is within, there.name.within, long_blocks, some, long, small) in
      let second : place_after (at + d + place) (unplaced c.0) ≡ at + d + (place + (length c.0 + 1)) =
      omega (arith, there.value.within, there.some, long_blocks, some, long, small) in
      rw (first, second) (
        name_after (at + d) (drop d tail) k.0 place c.0 blocks there.name,
        stand_after (at + d) (drop d tail) k.0 (place + (length c.0 + 1)) c.1 blocks some there.value,
      )

  abbrev mknod_of : MknodIn → (name : List ℕ) → ExtensionValues → Call
  mknod_of r name ext = call.Mknod (context_of h) h.nodeid name r.mode r.rdev r.umask ext

  abbrev mkdir_of : MkdirIn → (name : List ℕ) → ExtensionValues → Call
  mkdir_of r name ext = call.Mkdir (context_of h) h.nodeid name r.mode r.umask ext

  abbrev create_of : CreateIn → (name : List ℕ) → ExtensionValues → Call
  create_of r name ext =
      call.Create (context_of h) h.nodeid name r.mode (has_flag r.open_flags OPEN_KILL_SUIDGID) r.flags r.umask ext

  mknod_held : (r : MknodIn) (name : List ℕ) (context : Option (List ℕ × List ℕ)) (group : Option ℕ) (tail : List ℕ) (n : ℕ) → tail ≡ take n (drop 56 q)
      → NameStands q 56 name → length name < length tail → extensions_in options (drop (length name + 1) tail) ≡ Ok (record { context = context; group = group })
      → CallHas opcode.Mknod tail (echo_of h) (mknod_of r name (record { context = context; group = group }))
  mknod_held r name None group tail n is s within says place stands = record { numbers = refl; places = (s, tt {0}); others = refl }
  mknod_held r name (Some c) group tail n is s within says place stands =
      let at = name_end 56 name tail n is within in
      let there : ContextAt (drop (length name + 1) tail) place c =
      (rw (skip 56 name tail n is within) at stands) options (record { context = Some c; group = group }) c says refl in
      let placed = context_placed 56 name tail n is within place c there in
      rw (some_length (length c.1) there.some) (record { numbers = refl; places = (s, placed); others = refl })

  mkdir_held : (r : MkdirIn) (name : List ℕ) (context : Option (List ℕ × List ℕ)) (group : Option ℕ) (tail : List ℕ) (n : ℕ) → tail ≡ take n (drop 48 q)
      → NameStands q 48 name → length name < length tail → extensions_in options (drop (length name + 1) tail) ≡ Ok (record { context = context; group = group })
      → CallHas opcode.Mkdir tail (echo_of h) (mkdir_of r name (record { context = context; group = group }))
  mkdir_held r name None group tail n is s within says place stands = record { numbers = refl; places = (s, tt {0}); others = refl }
  mkdir_held r name (Some c) group tail n is s within says place stands =
      let at = name_end 48 name tail n is within in
      let there : ContextAt (drop (length name + 1) tail) place c =
      (rw (skip 48 name tail n is within) at stands) options (record { context = Some c; group = group }) c says refl in
      let placed = context_placed 48 name tail n is within place c there in
      rw (some_length (length c.1) there.some) (record { numbers = refl; places = (s, placed); others = refl })

  create_held : (r : CreateIn) (name : List ℕ) (context : Option (List ℕ × List ℕ)) (group : Option ℕ) (tail : List ℕ) (n : ℕ) → tail ≡ take n (drop 56 q)
      → NameStands q 56 name → length name < length tail → extensions_in options (drop (length name + 1) tail) ≡ Ok (record { context = context; group = group })
      → CallHas opcode.Create tail (echo_of h) (create_of r name (record { context = context; group = group }))
  create_held r name None group tail n is s within says place stands = record { numbers = refl; places = (s, tt {0}); others = refl }
  create_held r name (Some c) group tail n is s within says place stands =
      let at = name_end 56 name tail n is within in
      let there : ContextAt (drop (length name + 1) tail) place c =
      (rw (skip 56 name tail n is within) at stands) options (record { context = Some c; group = group }) c says refl in
      let placed = context_placed 56 name tail n is within place c there in
      rw (some_length (length c.1) there.some) (record { numbers = refl; places = (s, placed); others = refl })

  abbrev symlink_of : (name text : List ℕ) → ExtensionValues → Call
  symlink_of name text ext = call.Symlink (context_of h) text h.nodeid name ext

  symlink_held : (name text : List ℕ) (context : Option (List ℕ × List ℕ)) (group : Option ℕ) (tail : List ℕ) (n : ℕ) → tail ≡ take n (drop 40 q)
      → NamesStand q 40 name text → length text < length (drop (length name + 1) tail)
      → extensions_in options (drop (length text + 1) (drop (length name + 1) tail)) ≡ Ok (record { context = context; group = group })
      → CallHas opcode.Symlink tail (echo_of h) (symlink_of name text (record { context = context; group = group }))
  symlink_held name text None group tail n is s within says place stands =
      let end = name_end 40 name tail n is (omega (arith, within, length-drop (length name + 1) tail)) in
      record { numbers = refl; places = (s.front, rw end s.back, tt {0}); others = refl }
  symlink_held name text (Some c) group tail n is s within says place stands =
      let d = length name + 1 in
      let end = name_end 40 name tail n is (omega (arith, within, length-drop d tail)) in
      let k = dropped d n (drop 40 q) in
      let following : drop d tail ≡ take k.0 (drop (40 + d) q) = ap (drop d) is ∙ k.1 ∙ ap (take k.0) (drop-drop d 40 q) in
      let last = name_end (40 + d) text (drop d tail) k.0 following within in
      let blocks : drop (place_after (40 + d) (unplaced text) - 40) tail ≡ drop (length text + 1) (drop d tail) =
      ap (λ m. drop m tail) (omega (arith, last)) ∙ sym (drop-drop (length text + 1) d tail) in
      let there : ContextAt (drop (length text + 1) (drop d tail)) place c =
      (rw (end, blocks) at stands) options (record { context = Some c; group = group }) c says refl in
      let placed = context_placed (40 + d) text (drop d tail) k.0 following within place c there in
      rw (some_length (length c.1) there.some, end) (record { numbers = refl; places = (s.front, s.back, placed); others = refl })

  abbrev rest : List ℕ
  rest = drop (size_of in_header) q

  abbrev None_listed : Echo → Listing → Type 0
  None_listed echo l = ⊥

  pub held_by_opcode : (o : Opcode) → may_have_context options o ≡ true → (tail : List ℕ) → tail_after o h rest ≡ Ok tail
      → OfCall (CallHas o tail) None_listed (ask_opcode limits options space o h rest)
  held_by_opcode o may =
      of_four (λ o. (tail : List ℕ) → tail_after o h rest ≡ Ok tail → OfCall (CallHas o tail) None_listed (ask_opcode limits options space o h rest))
      (λ tail e. form_shown q h head (CallHas opcode.Symlink tail) None_listed (form_of limits options space h opcode.Symlink) (λ r name text ext tail2 whole s within says.
      let same : tail2 ≡ tail = same_ok tail2 tail (sym whole ∙ e) in
      let t = tail_stands h 0 rest tail e in
      symlink_held name text ext.context ext.group tail t.0 t.1 s (rw same at within) (rw same at says)))
      (λ tail e. form_shown q h head (CallHas opcode.Mknod tail) None_listed (form_of limits options space h opcode.Mknod) (λ r name ext tail2 whole s within says.
      let o = or_ok (record_of mknod_in rest) (λ x. tail_of h (size_of mknod_in) (drop (size_of mknod_in) rest)) tail e in
      let same : tail2 ≡ tail = same_ok tail2 tail (sym whole ∙ o.2) in
      let t = tail_stands h 16 (drop 16 rest) tail o.2 in
      mknod_held r name ext.context ext.group tail t.0 (t.1 ∙ ap (take t.0) (drop-drop 16 40 q)) s (rw same at within) (rw same at says)))
      (λ tail e. form_shown q h head (CallHas opcode.Mkdir tail) None_listed (form_of limits options space h opcode.Mkdir) (λ r name ext tail2 whole s within says.
      let o = or_ok (record_of mkdir_in rest) (λ x. tail_of h (size_of mkdir_in) (drop (size_of mkdir_in) rest)) tail e in
      let same : tail2 ≡ tail = same_ok tail2 tail (sym whole ∙ o.2) in
      let t = tail_stands h 8 (drop 8 rest) tail o.2 in
      mkdir_held r name ext.context ext.group tail t.0 (t.1 ∙ ap (take t.0) (drop-drop 8 40 q)) s (rw same at within) (rw same at says)))
      (λ tail e. form_shown q h head (CallHas opcode.Create tail) None_listed (form_of limits options space h opcode.Create) (λ r name ext tail2 whole s within says.
      let o = or_ok (record_of create_in rest) (λ x. tail_of h (size_of create_in) (drop (size_of create_in) rest)) tail e in
      let same : tail2 ≡ tail = same_ok tail2 tail (sym whole ∙ o.2) in
      let t = tail_stands h 16 (drop 16 rest) tail o.2 in
      create_held r name ext.context ext.group tail t.0 (t.1 ∙ ap (take t.0) (drop-drop 16 40 q)) s (rw same at within) (rw same at says)))
      options o may

  module _ (wanted : Type 0) (writer : Written) (outcome : Result ℕ Error) (writer_after : Written) (o : Opcode) (tail : List ℕ) (noted old new : CallData) (placed : PlacesContext o tail old new) where
    abbrev Is : Ask → Type 0
    Is a = OfCall (CallHas o tail) None_listed a

    held_where_noted : (a : Ask) → Is a → (noted.call ≡ 0 → ⊥) → old ≡ with_parts_told o noted → IsNoted wanted a writer outcome writer_after noted
        → Tells wanted q options 0 space a writer asked.Call writer_after new
    held_where_noted (Ends reply) is some e n = absurd (some (ap (λ (d : CallData). d.call) n.0))
    held_where_noted (Asks echo c) is some e n =
        let same : old ≡ with_parts_told o (shape_of c) = e ∙ ap (with_parts_told o) n in
        let stands = subst (λ (d : CallData). StandsInBlocks (blocks_of o d tail) placed.place) same placed.stands in
        let new_is = placed.new_is ∙ ap (λ (d : CallData). with_context_at (sum_or_most (blocks_place o d) placed.place) d) same in
        (refl, subst (λ (d : CallData). IsTold q options space echo c d) (sym new_is) (is placed.place stands))
    held_where_noted (Lists echo l) is some e n = absurd is
    held_where_noted (WithMemory next) is some e (inl n) = inl (held_where_noted next is some e n)
    held_where_noted (WithMemory next) is some e (inr n) = absurd (some (ap (λ (d : CallData). d.call) n.1))

pub tells_held : (wanted : Type 0) (q : List ℕ) (h : InHeader) (head : size_of in_header ≤ length q) (limits : Limits) (options space len : ℕ) (long : length q ≡ len) (small : len < 2 ^ 64)
    (writer writer_after : Written) (o : Opcode) (tail : List ℕ) (a : Ask) (result : Asked) (old new : CallData)
    → OfCall (CallHas q h head limits options space len long small o tail) (λ echo l. ⊥) a
    → NotedAndTold wanted a (told_with h.unique options space len o) writer result writer_after old
    → PlacesContext o tail old new → Tells wanted q options 0 space a writer result writer_after new
tells_held wanted q h head limits options space len long small writer writer_after o tail a result old new is n p = elim n.told_so [
  | inl x ↦ (
      let none : n.noted ≡ nothing = none_is_nothing wanted writer n.outcome writer_after n.noted a x.0 n.is_noted in
      let new_is : new ≡ n.noted = p.new_is ∙ ap (λ (d : CallData). with_context_at (sum_or_most (blocks_place o d) p.place) d) (x.2 ∙ none) ∙ sym none in
      rw (x.1, new_is) (finished_where_none wanted q options space writer n.outcome writer_after n.noted a x.0 n.is_noted))
  | inr x ↦ rw (x.1) (held_where_noted q h head limits options space len long small wanted writer n.outcome writer_after o tail n.noted old new p a is x.0 x.2 n.is_noted)
]
