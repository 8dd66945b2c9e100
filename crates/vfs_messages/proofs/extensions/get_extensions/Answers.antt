use Rattle.std.proofs.Common.{◌≡◌, true, false, Ok, ap, sym, ◌∙◌}
use Rattle.vfs_files.specs.Values.{ExtensionValues}
use Rattle.vfs_flags.specs.Flags.{fs_options_bits}
use Rattle.vfs_grammar.specs.Words.{reads_extensions}
use Rattle.vfs_messages.proofs.Blocks.{extensions_after-unread, gives-after}
use Rattle.vfs_messages.proofs.Refusing.{never_memory}
use Rattle.vfs_messages.proofs.extensions.get_extensions.Goals as goal

pub returns-then-not-reads_extensions-clause-gives : goal.returns-then-not-reads_extensions-clause-gives
returns-then-not-reads_extensions-clause-gives c =
    let unread : reads_extensions (fs_options_bits c.args.options) ≡ false = sym c.reads_extensions.ensures
    ∙ c.if-not-reads_extensions.true in
    extensions_after-unread (fs_options_bits c.args.options) c.args.skip c.args.bytes.now unread
    ∙ ap (λ (v : ExtensionValues). Ok v) (sym c.none.ensures)

pub returns-clause-gives : goal.returns-clause-gives
returns-clause-gives c =
    let read : reads_extensions (fs_options_bits c.args.options) ≡ true = sym c.reads_extensions.ensures
    ∙ c.if-not-reads_extensions.false in
    gives-after (fs_options_bits c.args.options) c.args.skip c.args.bytes.now c.read_blocks.result read
    c.if-bytes-skip.false c.read_blocks.ensures

pub returns-clause-memory : goal.returns-clause-memory
returns-clause-memory c =
    never_memory (fs_options_bits c.args.options) c.args.skip c.args.bytes.now c.read_blocks.result
    (returns-clause-gives c)
