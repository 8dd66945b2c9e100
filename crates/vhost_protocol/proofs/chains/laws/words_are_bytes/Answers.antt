use Rattle.std.proofs.Common.{◌≡◌, ◌≤◌, ◌<◌, ◌+◌, ◌*◌, ◌/◌, ◌%◌, ◌∙◌, ℕ, List, [], ◌∷◌, length, drop, ap, arith, length-drop}
use Rattle.std.proofs.lemmas.List.{drop-drop}
use Rattle.std.proofs.lemmas.Nat.{mod-mul-add, div-mul-add}
use Rattle.vfs_wire.specs.Fields.{AreBytes, number}
use Rattle.vfs_wire.specs.FieldLaws.{AreBytes-drop, number-lt}
use Rattle.vhost_protocol.specs.declared.chains.descriptor.Descriptor.{Descriptor}
use Rattle.vhost_protocol.proofs.chains.laws.words_are_bytes.Goals as goal

-- eight bytes as numbers of four, two and two
halves : (l : List ℕ) → 8 ≤ length l
    → (number 8 l ≡ number 4 (drop 4 l) * 4294967296 + number 4 l)
    × (number 8 l ≡ number 2 (drop 6 l) * 281474976710656 + (number 2 (drop 4 l) * 4294967296 + number 4 l))
    × (number 4 (drop 4 l) ≡ number 2 (drop 6 l) * 65536 + number 2 (drop 4 l))
unfolding number
halves (a ∷ b ∷ c ∷ d ∷ e ∷ f ∷ g ∷ h ∷ rest) long = (omega arith, omega arith, omega arith)
halves (a ∷ b ∷ c ∷ d ∷ e ∷ f ∷ g ∷ []) long = absurd (omega arith)
halves (a ∷ b ∷ c ∷ d ∷ e ∷ f ∷ []) long = absurd (omega arith)
halves (a ∷ b ∷ c ∷ d ∷ e ∷ []) long = absurd (omega arith)
halves (a ∷ b ∷ c ∷ d ∷ []) long = absurd (omega arith)
halves (a ∷ b ∷ c ∷ []) long = absurd (omega arith)
halves (a ∷ b ∷ []) long = absurd (omega arith)
halves (a ∷ []) long = absurd (omega arith)
halves [] long = absurd (omega arith)

parts : (l : List ℕ) → 8 ≤ length l → AreBytes l
    → (number 8 l % 4294967296 ≡ number 4 l) × (number 8 l / 4294967296 % 65536 ≡ number 2 (drop 4 l))
    × (number 8 l / 281474976710656 ≡ number 2 (drop 6 l))
parts l long are =
    let h = halves l long in
    let four : number 4 l < 4294967296 = number-lt 4 l are in
    let two : number 2 (drop 4 l) < 65536 = number-lt 2 (drop 4 l) (AreBytes-drop 4 l are) in
    let six : number 2 (drop 4 l) * 4294967296 + number 4 l < 281474976710656 = omega arith in (
      ap (λ x. x % 4294967296) h.0 ∙ mod-mul-add (number 4 (drop 4 l)) 4294967296 (number 4 l) four,
      ap (λ x. x % 65536) (ap (λ x. x / 4294967296) h.0
          ∙ div-mul-add (number 4 (drop 4 l)) 4294967296 (number 4 l) four ∙ h.2)
          ∙ mod-mul-add (number 2 (drop 6 l)) 65536 (number 2 (drop 4 l)) two,
      ap (λ x. x / 281474976710656) h.1
          ∙ div-mul-add (number 2 (drop 6 l)) 281474976710656 (number 2 (drop 4 l) * 4294967296 + number 4 l) six,
    )

abbrev built : (addr len flags next : ℕ) → Descriptor
built addr len flags next = record { addr = addr; len = len; flags = flags; next = next }

same : (addr len flags next len' flags' next' : ℕ) → len ≡ len' → flags ≡ flags' → next ≡ next'
    → built addr len flags next ≡ built addr len' flags' next'
same addr len flags next len' flags' next' l f n =
    ap (λ x. built addr x flags next) l
    ∙ (ap (λ x. built addr len' x next) f ∙ ap (λ x. built addr len' flags' x) n)

pub returns : goal.returns
returns c bytes at are long =
    let p = parts (drop (at + 8) bytes) (simp length-drop (omega arith)) (AreBytes-drop (at + 8) bytes are) in
    let q : drop 4 (drop (at + 8) bytes) ≡ drop (at + 12) bytes =
    drop-drop 4 (at + 8) bytes ∙ ap (λ n. drop n bytes) (omega arith) in
    let r : drop 6 (drop (at + 8) bytes) ≡ drop (at + 14) bytes =
    drop-drop 6 (at + 8) bytes ∙ ap (λ n. drop n bytes) (omega arith) in
    same _ _ _ _ _ _ _ p.0 (p.1 ∙ ap (number 2) q) (p.2 ∙ ap (number 2) r)
