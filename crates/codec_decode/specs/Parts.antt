-- Where the names and values of a request are, by its opcode.
use Rattle.std.specs.Prelude.{◌+◌, ◌-◌, ◌*◌, ◌^◌, ℕ, min}
use Rattle.vfs_flags.specs.declared.opcode.Opcode.{Opcode}
use Rattle.vfs_flags.specs.declared.opcode.Opcode.TheVariants as opcode
use Rattle.vfs_wire.specs.Records.{batch_forget_in, in_header, out_header}
use Rattle.vfs_wire_more.specs.Records.{write_in, create_in, link_in, mkdir_in, mknod_in, rename_in, rename2_in, getxattr_in}
use Rattle.vfs_grammar.specs.Ask.{setxattr_layout}
use Rattle.vfs_grammar.specs.Forms.{layout_size}
use Rattle.vfs_grammar.specs.Records.{size_of}
use Rattle.vfs_grammar.specs.Words.{pair_size}
use Rattle.codec_calls.specs.declared.call.CallData.{CallData}
use Rattle.codec_calls.specs.declared.call.Range.{Range}
use Rattle.codec_decode.specs.declared.parts.Parts.{Parts}
use Rattle.codec_decode.specs.declared.parts.Parts.TheVariants.{Nowhere, Name, Names, NameAndValue, Pairs, Rest, Room}

-- the parts of a request of this opcode, under these options: after its record, if it has one
abbrev pub parts_of : (options : ℕ) → Opcode → Parts
parts_of options opcode.Lookup = Name (size_of in_header)
parts_of options opcode.Symlink = Names (size_of in_header)
parts_of options opcode.Mknod = Name (size_of in_header + size_of mknod_in)
parts_of options opcode.Mkdir = Name (size_of in_header + size_of mkdir_in)
parts_of options opcode.Unlink = Name (size_of in_header)
parts_of options opcode.Rmdir = Name (size_of in_header)
parts_of options opcode.Rename = Names (size_of in_header + size_of rename_in)
parts_of options opcode.Link = Name (size_of in_header + size_of link_in)
parts_of options opcode.Read = Room
parts_of options opcode.Write = Rest (size_of in_header + size_of write_in)
parts_of options opcode.Setxattr = NameAndValue (size_of in_header + layout_size (setxattr_layout options))
parts_of options opcode.Getxattr = Name (size_of in_header + size_of getxattr_in)
parts_of options opcode.Removexattr = Name (size_of in_header)
parts_of options opcode.Create = Name (size_of in_header + size_of create_in)
parts_of options opcode.BatchForget = Pairs (size_of in_header + size_of batch_forget_in)
parts_of options opcode.Rename2 = Names (size_of in_header + size_of rename2_in)
parts_of options opcode = Nowhere

-- a range at this place
abbrev pub placed_at : (at : ℕ) → Range → Range
placed_at at range = record { at = at; len = range.len }

-- the place after a name that begins here, and after its 0, or the greatest number
abbrev pub place_after : (at : ℕ) → Range → ℕ
place_after at name = min (min (at + name.len) (2 ^ 64 - 1) + 1) (2 ^ 64 - 1)

-- a call with its parts, of a request of that many bytes, with that much room for the reply
abbrev pub with_parts : (length room : ℕ) → Parts → CallData → CallData
with_parts length room Nowhere c = c
with_parts length room (Name at) c = record c { name = placed_at at c.name }
with_parts length room (Names at) c = record c {
  name = placed_at at c.name;
  other_name = placed_at (place_after at c.name) c.other_name;
}
with_parts length room (NameAndValue at) c = record c {
  name = placed_at at c.name;
  «data» = placed_at (place_after at c.name) c.data;
}
with_parts length room (Pairs at) c = record c {
  «data» = record { at = at; len = min (c.length * pair_size) (2 ^ 64 - 1) };
}
with_parts length room (Rest at) c = record c { «data» = record { at = at; len = length - at } }
with_parts length room Room c = record c { length = room - size_of out_header }

-- a noted call with what is told besides
abbrev pub told_with : (unique options room length : ℕ) → Opcode → CallData → CallData
told_with unique options room length o c =
    with_parts length room (parts_of options o) (record c {
      unique = unique;
      options = options;
      room = room;
    })
