-- The books held against turns written out: each sum, computed.
use Rattle.std.proofs.Common.{◌-◌, length, take, ◌≡◌, ◌+◌, ◌/◌, ◌%◌, ℕ, List, [], ◌∷◌, ◌++◌, replicate, false, Option, Some, None, Result, Ok, Err, sum_by, refl, pos}
use Rattle.vfs_flags.specs.Numbers.{opcode_of}
use Rattle.vfs_wire.specs.Fields.{number, value_of}
use Rattle.vfs_wire.specs.Records.{attr}
use Rattle.vfs_files.specs.declared.entry.Context.{Context}
use Rattle.vfs_files.specs.declared.entry.Entry.{Entry}
use Rattle.vfs_files.specs.Values.{ExtensionValues, Item}
use Rattle.vfs_files.specs.Calls.{Found, Created, Done, Text}
use Rattle.vfs_files.specs.Calls as call
use Rattle.vfs_files.specs.Runs.{Event, Called, OpenedDirectory, Taken}
use Rattle.vfs_grammar.specs.Listing.{given_back}
use Rattle.vfs_grammar.specs.Turn.{Turn, events_in}
use Rattle.vfs_grammar.specs.declared.error.Error.{Error}
use Rattle.vfs_grammar.specs.declared.error.Error.TheVariants.{DecodeMessage, EncodeMessage}
use Rattle.vfs_grammar.specs.Books.{answered, sent, delivered, accepted}

-- four bytes of a number, the lowest first
abbrev four : ℕ → List ℕ
four n = n % 256 ∷ n / 256 % 256 ∷ n / 65536 % 256 ∷ n / 16777216 ∷ []

-- eight bytes of a number, the lowest first
abbrev eight : ℕ → List ℕ
eight n = four (n % 4294967296) ++ four (n / 4294967296)

abbrev zeros : ℕ → List ℕ
zeros n = replicate n 0

-- a request's header with these values and zeros elsewhere
abbrev header : (len opcode unique nodeid : ℕ) → List ℕ
header len opcode unique nodeid =
    (((four len ++ four opcode) ++ (four unique ++ zeros 4)) ++ (four nodeid ++ zeros 4)) ++ zeros 16

abbrev nobody : Context
nobody = record { uid = 0; gid = 0; pid = pos 0 }

abbrev no_extensions : ExtensionValues
no_extensions = record { context = None; group = None }

abbrev node : ℕ → Entry
node n = record {
  inode = n;
  generation = 0;
  attr = value_of attr (zeros 88);
  attr_timeout = record { secs = 0; nanos = 0 };
  entry_timeout = record { secs = 0; nanos = 0 };
}

-- a reply without an error, of this length, that begins with node n
abbrev reply_of_node : (n len following : ℕ) → List ℕ
reply_of_node n len following = (((four len ++ zeros 4) ++ eight 9) ++ eight n) ++ zeros following

-- ---- LOOKUP of `a` in node 1, answered by node n, and a node that is given back

abbrev lookup : (n room : ℕ) → Option ℕ → Result ℕ Error → (room_after : List ℕ) → Turn
lookup n room back outcome room_after = record {
  request = header 42 1 9 1 ++ (0x61 ∷ 0 ∷ []);
  room = zeros room;
  events = Called (call.Lookup nobody 1 (0x61 ∷ [])) (Found (node n)) ∷ given_back nobody back;
  outcome = outcome;
  room_after = room_after;
}

-- with a room of 146 bytes, of which two stay
abbrev whole : Turn
whole = lookup 5 146 None (Ok 144) (reply_of_node 5 144 120 ++ (0xaa ∷ 0xaa ∷ []))

whole_is_answered : answered 5 whole.events ≡ 1
whole_is_answered = refl

whole_is_delivered : delivered 5 whole ≡ 1
unfolding number opcode_of
whole_is_delivered = refl

another_is_not_delivered : delivered 6 whole ≡ 0
unfolding number opcode_of
another_is_not_delivered = refl

whole_is_not_given_back : sent 5 whole.events ≡ 0
whole_is_not_given_back = refl

whole_accepts_nothing : accepted 5 whole ≡ 0
unfolding number opcode_of
whole_accepts_nothing = refl

-- with a room of 20 bytes
abbrev cut_short : Turn
cut_short = lookup 5 20 (Some 5) (Err EncodeMessage) (((four 144 ++ zeros 4) ++ eight 9) ++ four 5)

cut_short_is_given_back : sent 5 cut_short.events ≡ answered 5 cut_short.events
cut_short_is_given_back = refl

cut_short_is_not_delivered : delivered 5 cut_short ≡ 0
cut_short_is_not_delivered = refl

-- whatever comes after the header of a fault is no node: -2 in four bytes is fe ff ff ff
fault_delivers_nothing : delivered 5 (lookup 5 24 None (Ok 24) (((four 24 ++ (0xfe ∷ 0xff ∷ 0xff ∷ 0xff ∷ [])) ++ eight 9) ++ eight 5)) ≡ 0
unfolding number opcode_of
fault_delivers_nothing = refl

-- ---- CREATE of `c` in node 1, answered by node 3 and no handle

abbrev create : (room : ℕ) → Option ℕ → Result ℕ Error → (room_after : List ℕ) → Turn
create room back outcome room_after = record {
  request = header 58 35 9 1 ++ (zeros 16 ++ (0x63 ∷ 0 ∷ []));
  room = zeros room;
  events = Called (call.Create nobody 1 (0x63 ∷ []) 0 false 0 0 no_extensions) (Created (node 3) None 0) ∷ given_back nobody back;
  outcome = outcome;
  room_after = room_after;
}

create_is_answered : answered 3 (create 160 None (Ok 160) (reply_of_node 3 160 136)).events ≡ 1
create_is_answered = refl

create_is_delivered : delivered 3 (create 160 None (Ok 160) (reply_of_node 3 160 136)) ≡ 1
unfolding number opcode_of
create_is_delivered = refl

create_is_given_back : sent 3 (create 0 (Some 3) (Err EncodeMessage) []).events ≡ 1
create_is_given_back = refl

-- ---- READLINK, whose text begins as an entry of node 5 does

abbrev readlink : Turn
readlink = record {
  request = header 40 5 9 1;
  room = zeros 24;
  events = Called (call.Readlink nobody 1) (Text (eight 5)) ∷ [];
  outcome = Ok 24;
  room_after = reply_of_node 5 24 0;
}

text_delivers_nothing : delivered 5 readlink ≡ 0
unfolding number opcode_of
text_delivers_nothing = refl

-- ---- FORGET of node n by a count

abbrev forget : (n count : ℕ) → Turn
forget n count = record {
  request = header 48 2 9 n ++ eight count;
  room = [];
  events = Called (call.Forget nobody n count) Done ∷ [];
  outcome = Ok 0;
  room_after = [];
}

forget_is_accepted : accepted 5 (forget 5 2) ≡ 2
unfolding number opcode_of
forget_is_accepted = refl

forget_is_sent : sent 5 (forget 5 2).events ≡ 2
forget_is_sent = refl

forget_of_another : accepted 6 (forget 5 2) + sent 6 (forget 5 2).events ≡ 0
unfolding number opcode_of
forget_of_another = refl

forget_delivers_nothing : delivered 5 (forget 5 2) ≡ 0
forget_delivers_nothing = refl

-- ---- BATCH_FORGET of node 5 by 1, of node 7 by 3 and of node 5 by 4

abbrev batch : (count : ℕ) → Result ℕ Error → List Event → Turn
batch count outcome events = record {
  request = header 96 42 9 0 ++ ((four count ++ zeros 4) ++ ((eight 5 ++ eight 1) ++ ((eight 7 ++ eight 3) ++ (eight 5 ++ eight 4))));
  room = [];
  events = events;
  outcome = outcome;
  room_after = [];
}

abbrev whole_batch : Turn
whole_batch = batch 3 (Ok 0) (Called (call.BatchForget nobody ((5, 1) ∷ (7, 3) ∷ (5, 4) ∷ [])) Done ∷ [])

batch_is_accepted : accepted 5 whole_batch ≡ 5
unfolding number opcode_of
batch_is_accepted = refl

batch_is_sent : sent 5 whole_batch.events ≡ 5
batch_is_sent = refl

batch_of_another : accepted 7 whole_batch ≡ 3
unfolding number opcode_of
batch_of_another = refl

-- a list that ends short is refused, and nothing of it is accepted
short_batch_is_not_accepted : accepted 5 (batch 4 (Err DecodeMessage) []) ≡ 0
short_batch_is_not_accepted = refl

-- ---- READDIRPLUS of node 1 into 479 bytes

-- a record of a node and a name, with zeros for the rest of the entry and to a multiple of 8
abbrev record_of : (node ino offset type_ : ℕ) (name : List ℕ) (padding : ℕ) → List ℕ
record_of node ino offset type_ name padding =
    (eight node ++ zeros 120) ++ (((eight ino ++ eight offset) ++ (four (length name) ++ four type_)) ++ (name ++ zeros padding))

abbrev readdirplus : List Event → (following : List ℕ) → Turn
readdirplus events following = record {
  request = header 80 44 9 1 ++ (zeros 16 ++ (four 479 ++ zeros 20));
  room = zeros 495;
  events = events;
  outcome = Ok (16 + length following);
  room_after = ((four (16 + length following) ++ zeros 4) ++ eight 9) ++ (following ++ zeros (479 - length following));
}

-- `.`, which has node 0, then `a` of node 5, and then `file` of node 5 too
abbrev three_records : List ℕ
three_records = (record_of 0 1 1 4 (0x2e ∷ []) 7 ++ record_of 5 5 2 8 (0x61 ∷ []) 7) ++ record_of 5 5 3 8 (0x66 ∷ 0x69 ∷ 0x6c ∷ 0x65 ∷ []) 4

records_are_delivered : delivered 5 (readdirplus [] three_records) ≡ 2
unfolding number opcode_of
records_are_delivered = refl

-- a record that is cut short delivers nothing
cut_record_is_not_delivered : delivered 5 (readdirplus [] (take 479 three_records)) ≡ 1
unfolding number opcode_of
cut_record_is_not_delivered = refl

-- ---- in order: node 2

abbrev item : (ino offset type_ : ℕ) (name : List ℕ) → Item
item ino offset type_ name = record { ino = ino; offset = offset; type_ = type_; name = name }

-- a third record doesn't fit, and its entry is given back
abbrev listed : Turn
listed =
    readdirplus
    (OpenedDirectory (call.Readdir nobody 1 0 479 0) ∷ Taken (Some (item 1 1 4 (0x2e ∷ [])))
    ∷ Taken (Some (item 1 2 4 (0x2e ∷ 0x2e ∷ []))) ∷ Taken (Some (item 2 3 8 (0x61 ∷ [])))
    ∷ Called (call.Lookup nobody 1 (0x61 ∷ [])) (Found (node 2)) ∷ Called (call.Forget nobody 2 1) Done ∷ [])
    (record_of 0 1 1 4 (0x2e ∷ []) 7 ++ record_of 0 1 2 4 (0x2e ∷ 0x2e ∷ []) 6)

abbrev session : List Turn
session =
    lookup 2 144 None (Ok 144) (reply_of_node 2 144 120)
    ∷ lookup 2 100 (Some 2) (Err EncodeMessage) (take 100 (reply_of_node 2 144 120))
    ∷ forget 2 1 ∷ listed
    ∷ record {
      request = header 64 42 9 0 ++ ((four 2 ++ zeros 4) ++ (eight 2 ++ eight 1));
      room = [];
      events = [];
      outcome = Err DecodeMessage;
      room_after = [];
    } ∷ []

session_answers : answered 2 (events_in session) ≡ 3
session_answers = refl

session_accepts : sum_by (accepted 2) session ≡ 1
unfolding number opcode_of
session_accepts = refl

session_delivers : sum_by (delivered 2) session ≡ 1
unfolding number opcode_of
session_delivers = refl

session_sends : sent 2 (events_in session) ≡ 3
session_sends = refl
