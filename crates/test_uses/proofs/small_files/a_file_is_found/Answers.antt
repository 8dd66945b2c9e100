use Rattle.std.proofs.Common.{codes, ap}
use Rattle.vfs_wire.specs.declared.attributes.Attr.{Attr}
use Rattle.fs_small.specs.MemFs.{Stored, file_attr}
use Rattle.test_uses.proofs.SmallFiles.{found_as, not_found, attributes_are, no_attributes, attributes_alone}
use Rattle.test_uses.proofs.small_files.a_file_is_found.Goals as goal

abbrev the_file : Stored
the_file = record { node = 2; name = codes "a"; contents = codes "hello" }

pub returns-clause-entry : goal.returns-clause-entry
returns-clause-entry c = λ ctx entry new h.
    let found = found_as the_file entry h.0 in
    (found.0, found.1, ap (λ (a : Attr). a.size) found.2)

pub returns-clause-no_name : goal.returns-clause-no_name
returns-clause-no_name c = λ ctx fault new h. not_found fault h.0

pub returns-clause-attributes : goal.returns-clause-attributes
returns-clause-attributes c = λ ctx handle found timeout new h.
    let are = attributes_are (file_attr the_file) found timeout h.0 in
    (ap (λ (a : Attr). a.size) are.0, are.1)

pub returns-clause-no_number : goal.returns-clause-no_number
returns-clause-no_number c = λ ctx handle fault new h. no_attributes fault h.0

pub returns-clause-nothing_else : goal.returns-clause-nothing_else
returns-clause-nothing_else c = λ ctx handle new h. attributes_alone (file_attr the_file) h.0
