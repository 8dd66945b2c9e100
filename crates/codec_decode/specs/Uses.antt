-- What is told of some requests.
use Rattle.std.specs.Prelude.{◌≡◌, ◌≤◌, ◌+◌, ◌++◌, ℕ, List, [], ◌∷◌}
use Rattle.vfs_grammar.specs.Samples.{batch_of_two, eight, four, header_9, lookup_of_a, zeros}
use Rattle.vfs_grammar.specs.Forms.{pairs_of}
use Rattle.codec_calls.specs.Shapes.{nothing}
use Rattle.codec_calls.specs.declared.call.CallData.{CallData}
use Rattle.codec_calls.specs.declared.call.number.TheConstants as number
use Rattle.codec_calls.specs.declared.call.kind.TheConstants as kind
use Rattle.codec_decode.specs.Asked.{IsNameIn, bytes_in, without_places}
use Rattle.codec_decode.specs.declared.asked.Asked.{Asked}
use Rattle.codec_decode.specs.declared.asked.Asked.TheVariants.{Call}

-- request 9: a LOOKUP of `a` in node 1
pub record LooksUpA (options room : ℕ) (asked : Asked) (told : CallData) : Type 0 where
  pub is_call : asked ≡ Call
  pub numbers : without_places told ≡ record nothing {
    unique = 9;
    options = options;
    room = room;
    node = 1;
    name = record { at = 0; len = 1 };
    call = number.LOOKUP;
    answer = kind.ENTRY;
  }
  pub name : IsNameIn lookup_of_a told.name (0x61 ∷ [])

-- request 9: a RENAME of `a` in node 1 to `b` in node 2
abbrev pub rename_of_a_to_b : List ℕ
rename_of_a_to_b = header_9 52 12 ++ (eight 2 ++ (0x61 ∷ 0 ∷ 0x62 ∷ 0 ∷ []))

pub record RenamesAToB (options room : ℕ) (asked : Asked) (told : CallData) : Type 0 where
  pub is_call : asked ≡ Call
  pub numbers : without_places told ≡ record nothing {
    unique = 9;
    options = options;
    room = room;
    node = 1;
    name = record { at = 0; len = 1 };
    other_node = 2;
    other_name = record { at = 0; len = 1 };
    call = number.RENAME;
    answer = kind.STATUS;
  }
  pub old_name : IsNameIn rename_of_a_to_b told.name (0x61 ∷ [])
  pub new_name : IsNameIn rename_of_a_to_b told.other_name (0x62 ∷ [])

-- a READ of three bytes with a room of twenty, which has room for four of data
pub record ReadsThree (options room : ℕ) (asked : Asked) (told : CallData) : Type 0 where
  pub is_call : asked ≡ Call
  pub numbers : without_places told ≡ record nothing {
    unique = 9;
    options = options;
    room = room;
    node = 1;
    size = 3;
    length = 4;
    call = number.READ;
    answer = kind.DATA;
  }

-- request 9: a MKDIR of `d` in node 1 with the context of name `s` and value `v`: a block of 19 bytes
abbrev pub mkdir_with_context : List ℕ
mkdir_with_context =
    header_9 69 9
    ++ (zeros 8 ++ (0x64 ∷ 0 ∷ (four 19 ++ (four 1 ++ (four 1 ++ (zeros 4 ++ (0x73 ∷ 0 ∷ 0x76 ∷ [])))))))

pub record HasContext (asked : Asked) (told : CallData) : Type 0 where
  pub is_call : asked ≡ Call
  pub name : IsNameIn mkdir_with_context told.name (0x64 ∷ [])
  pub context_name : IsNameIn mkdir_with_context told.context_name (0x73 ∷ [])
  pub context : bytes_in mkdir_with_context told.context ≡ 0x76 ∷ []

-- request 9: an INIT of the major version 8
abbrev pub later_init : List ℕ
later_init = header_9 56 26 ++ (eight 8 ++ zeros 8)

-- a BATCH_FORGET of node 5 by 1 and of node 7 by 3: the pairs lie in 32 bytes of the request
pub record ForgetsTwo (asked : Asked) (told : CallData) : Type 0 where
  pub is_call : asked ≡ Call
  pub number : told.call ≡ number.BATCH_FORGET
  pub size : told.data.len ≡ 32
  pub within : told.data.at + told.data.len ≤ 80
  pub pairs : pairs_of 2 (bytes_in batch_of_two told.data) ≡ (5, 1) ∷ (7, 3) ∷ []
