use Rattle.std.proofs.Common.{sym, ap, ◌∙◌}
use Rattle.vfs_files.specs.Values.{name_text}
use Rattle.fs_nodes.specs.Xattrs.{xattr_bytes, with_xattr}
use Rattle.fs_nodes.proofs.Attributes.{put_in, in_order}
use Rattle.fs_nodes.proofs.Results.{ok_clause}
use Rattle.fs_nodes.proofs.xattrs.Xattrs.set.Goals as goal

pub returns-clause-ok : goal.returns-clause-ok
returns-clause-ok c =
    put_in c.self.inside.values.entries c.insert.new.self.entries c.in_ok-key.key
    c.in_ok-value.value
    (ok_clause c.insert.result c.is_err.result c.is_err.ensures.value c.if-is_err.false
    c.insert.ensures.entries)
    c.args.self.now (name_text c.args.name) c.args.value.now c.self.view_is
    (c.in_ok-key.ensures.same ∙ c.to_bytes-2.ensures) c.in_ok-value.ensures.same

pub invariant_of-self-2 : goal.invariant_of-self-2
invariant_of-self-2 c =
    let put = put_in c.self.inside.values.entries c.insert.new.self.entries c.in_ok-key.key
    c.in_ok-value.value
    (ok_clause c.insert.result c.is_err.result c.is_err.ensures.value c.if-is_err.false
    c.insert.ensures.entries)
    c.args.self.now (name_text c.args.name) c.args.value.now c.self.view_is
    (c.in_ok-key.ensures.same ∙ c.to_bytes-2.ensures) c.in_ok-value.ensures.same in (
      in_order c.insert.new.self.entries c.insert.ensures.ordered,
      c.in-Some.ensures.0
          ∙ ap (λ n. xattr_bytes (with_xattr c.args.self.now n c.args.value.now))
          c.to_bytes.ensures
          ∙ ap xattr_bytes (sym put),
      c.in-Some.ensures.1,
    )
