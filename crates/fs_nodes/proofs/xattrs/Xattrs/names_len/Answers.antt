use Rattle.std.proofs.Common.{ℕ, List, length, ap, arith, length-append}
use Rattle.fs_nodes.specs.Xattrs.{xattr_bytes, listed, name_list, xattrs_of}
use Rattle.fs_nodes.proofs.Attributes.{names_fit}
use Rattle.fs_nodes.proofs.xattrs.Xattrs.names_len.Goals as goal

pub overflow_add-length : goal.overflow_add-length
overflow_add-length c =
    let to_other = c.args.to_other in
    let name = c.in-Some.name.now.items in
    record {
      fits = omega (
        arith,
        c.loop-name.invariant,
        ap (λ es. length (name_list to_other (xattrs_of es))) c.in-Some.ensures.steps,
        length-append (listed to_other name) (name_list to_other (xattrs_of c.next.new.self)),
        c.listed_len-length.ensures,
        ap (λ (l : List ℕ). length (listed to_other l)) c.deref.ensures.value,
        names_fit to_other c.args.self.now,
        ap xattr_bytes c.self.view_is,
        c.self.invariant.1,
        c.self.invariant.2,
      );
    }

pub overflow_cast-result : goal.overflow_cast-result
overflow_cast-result c =
    record {
      fits = omega (
        arith,
        c.loop-name.invariant,
        names_fit c.args.to_other c.args.self.now,
        ap xattr_bytes c.self.view_is,
        c.self.invariant.1,
        c.self.invariant.2,
      );
    }

pub returns-clause-most : goal.returns-clause-most
returns-clause-most c =
    omega (
      arith,
      c.loop-name.invariant,
      names_fit c.args.to_other c.args.self.now,
      ap xattr_bytes c.self.view_is,
      c.self.invariant.1,
      c.self.invariant.2,
    )
