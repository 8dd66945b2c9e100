use Rattle.std.proofs.Common.{refl, rules}
use Rattle.vfs_flags.specs.Flags.{fs_options_bits}
use Rattle.vfs_segments.specs.Segments.{flat_bytes, segments_of}
use Rattle.nizwarf_codec.proofs.Leaving.{held_on}
use Rattle.nizwarf_codec.proofs.OfferedAsks.{named_room, none_unnamed}
use Rattle.nizwarf_codec.proofs.further.ask_unnamed.Goals as goal

pub returns-in_default-clause-asked : goal.returns-in_default-clause-asked
returns-in_default-clause-asked c =
    none_unnamed c.args.limits (fs_options_bits c.args.options) (flat_bytes (segments_of c.args.request.now)) c.args.room _
    c.not_asked.new.call c.args.told.now _ (search rules) c.not_asked.ensures.none (rw c.memory_of.ensures.taken refl)

pub returns-clause-keeps : goal.returns-clause-keeps
returns-clause-keeps c n holds =
    held_on n c.args.handle.now.value c.put.new.self.value c.in-Some.memory.value c.ask_cut-code.new.memory
    c.in-Some.ensures.kept c.put.ensures
    (λ has. c.ask_cut-code.ensures.keeps n (rw c.deref_mut.ensures.value has)) holds

pub returns-clause-kept : goal.returns-clause-kept
returns-clause-kept c code =
    record {
      memory = c.ask_cut-code.new.memory;
      is = c.put.ensures;
      has =
          named_room c.ask_cut-code.result c.ask_cut-code.new.call c.name.new.call
          c.ask_cut-code.new.memory.answers (search rules)
          (c.ask_cut-code.ensures.kept (search (rules, code)));
    }
