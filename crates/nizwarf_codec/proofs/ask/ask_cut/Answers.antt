use Rattle.std.proofs.Common.{◌≡◌, ◌<◌, ◌≤◌, ◌^◌, ℕ, length, arith, inl, inr, refl, rules}
use Rattle.vfs_segments.specs.Segments.{flat_bytes, segments_of}
use Rattle.c_rooms.specs.Codes.{no_memory}
use Rattle.nizwarf_codec.specs.Asking.{unread_in}
use Rattle.nizwarf_codec.proofs.Leaving.{nothing_shown}
use Rattle.nizwarf_codec.proofs.OfferedAsks.{too_long_as}
use Rattle.nizwarf_codec.proofs.ask.ask_cut.Goals as goal

pub returns-in-Err-clause-asked : goal.returns-in-Err-clause-asked
returns-in-Err-clause-asked c =
    inr (record {
      why = inl (search rules);
      no_call = search rules;
      same_told = refl;
      none_shown = nothing_shown (record c.args.memory.now { shown = 0 }) refl;
    })

pub returns-in-Err-DescriptorChainOverflow-clause-asked : goal.returns-in-Err-DescriptorChainOverflow-clause-asked
returns-in-Err-DescriptorChainOverflow-clause-asked c =
    inr (record {
      why = inr (search rules, too_long_as c.args.create _ (search rules));
      no_call = search rules;
      same_told = refl;
      none_shown = nothing_shown (record c.args.memory.now { shown = 0 }) refl;
    })

pub returns-in-Ok-clause-memory : goal.returns-in-Ok-clause-memory
returns-in-Ok-clause-memory c reply answer few none code =
    let reader : c.in-Ok.reader ≡ unread_in (segments_of c.args.request.now) = search rules in
    let want : c.ask_reader.result ≡ no_memory = search (rules, code) in
    c.ask_reader.ensures.memory reply (rw reader answer) (rw reader none) want

not_less : (n : ℕ) → (n < 2 ^ 64 → ⊥) → 2 ^ 64 ≤ n
not_less n short = omega (arith, short)

pub returns-in-Err-clause-memory : goal.returns-in-Err-clause-memory
returns-in-Err-clause-memory c reply answer few none code =
    let n : ℕ = length (flat_bytes (segments_of c.args.request.now)) in
    let long : 2 ^ 64 ≤ n = not_less n (λ fits. let e = c.in-Err.ensures.few few fits in cc) in
    let chain = c.in-Err.ensures.too_long long in
    search (rules, chain)
