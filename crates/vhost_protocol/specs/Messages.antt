-- Messages: the value of a header and a payload, or why they are refused.
use Rattle.std.specs.Prelude.{◌==◌, ◌%◌, ◌+◌, ◌^◌, ◌&&◌, ◌||◌, ℕ, List, length, Bool, Option, Some, None, Result, Ok, Err, if◌then◌else◌, nat_lt, nat_le, bit_and}
use Rattle.std.specs.Int.{is_power_of_two}
use Rattle.vfs_wire.specs.Fields.{number}
use Rattle.vhost_protocol.specs.Numbers.{request_of}
use Rattle.vhost_protocol.specs.Records.{field, head_in, log_in, rings_in}
use Rattle.vhost_protocol.specs.Requests.{has_size}
use Rattle.vhost_protocol.specs.Tables.{alone, table_of}
use Rattle.vhost_protocol.specs.declared.messages.message.Message.{Message}
use Rattle.vhost_protocol.specs.declared.messages.message.Offer.{Offer}
use Rattle.vhost_protocol.specs.declared.messages.message.Rings.{Rings}
use Rattle.vhost_protocol.specs.declared.numbers.Refusal.{Refusal}
use Rattle.vhost_protocol.specs.declared.numbers.Refusal.TheVariants.{Cut, WrongVersion, IsReply, NotServed, WrongSize, WrongDescriptors, NotOffered, NoQueue, WrongQueueSize, WrongBase, WrongEnable, Logs, Misaligned, WrongLog, WrongTransfer}
use Rattle.vhost_protocol.specs.declared.messages.records.Head.{Head}
use Rattle.vhost_protocol.specs.declared.messages.records.Log.{Log}
use Rattle.vhost_protocol.specs.declared.numbers.Request.{Request}
use Rattle.vhost_protocol.specs.declared.numbers.Request.TheVariants.{GetFeatures, SetFeatures, SetOwner, ResetOwner, SetMemTable, SetVringNum, SetVringAddr, SetVringBase, GetVringBase, SetVringKick, SetVringCall, SetVringErr, GetProtocolFeatures, SetProtocolFeatures, GetQueueNum, SetVringEnable, SetLogBase, SetLogFd, SetDeviceStateFd, CheckDeviceState}

-- ---- headers

-- of `flags`: the version, which is 1; that it is a reply; that one is wanted
abbrev pub version_bits : ℕ
version_bits = 3

abbrev pub reply_bit : ℕ
reply_bit = 4

abbrev pub wants_bit : ℕ
wants_bit = 8

-- the request, if a payload has its size
abbrev pub sized : (size : ℕ) → Option Request → Result Request Refusal
sized size None = Err NotServed
sized size (Some r) = if has_size r size then Ok r else Err WrongSize

-- what a header asks for
unfoldable pub asked_by : Head → Result Request Refusal
asked_by h =
    if bit_and h.flags version_bits == 1
    then (if bit_and h.flags reply_bit == 0 then sized h.size (request_of h.request) else Err IsReply)
    else Err WrongVersion

-- the size of the payload
abbrev pub size_of_asked : Head → Result Request Refusal → Result ℕ Refusal
size_of_asked h (Err e) = Err e
size_of_asked h (Ok r) = Ok h.size

unfoldable pub size_in : (head : List ℕ) → Result ℕ Refusal
size_in bytes =
    if length bytes == 12
    then size_of_asked (head_in bytes) (asked_by (head_in bytes))
    else Err Cut

-- ---- payloads

-- a message, if all of these features were offered
unfoldable pub if_offered : (features offered : ℕ) → Message → Result Message Refusal
if_offered features offered m =
    if bit_and offered features == features then Ok m else Err NotOffered

-- features, all of which were offered
abbrev pub wanted : Request → (number offered : ℕ) → Result Message Refusal
wanted r number offered = if_offered number offered (record (alone r) { number = number })

-- why a number of a queue can't be
unfoldable pub number_fault : Request → ℕ → Option Refusal
number_fault SetVringNum n =
    if is_power_of_two n && nat_le n 32768 then None else Some WrongQueueSize
number_fault SetVringBase n = if nat_lt n 65536 then None else Some WrongBase
number_fault SetVringEnable n = if nat_lt n 2 then None else Some WrongEnable
number_fault _ n = None

-- a number of a queue
abbrev pub unless : Option Refusal → Message → Result Message Refusal
unless None m = Ok m
unless (Some e) m = Err e

unfoldable pub state_of : Request → (body : List ℕ) → (queues : ℕ) → Result Message Refusal
state_of r body queues =
    if nat_lt (field 4 0 body) queues
    then unless (number_fault r (field 4 4 body))
    (record (alone r) { queue = field 4 0 body; number = field 4 4 body })
    else Err NoQueue

-- an event of a queue, which bits 0 to 7 number: bit 8 says that it has no descriptor
unfoldable pub event_of : Request → (number queues : ℕ) → Result Message Refusal
event_of r number queues =
    if nat_lt (bit_and number 0xff) queues
    then Ok (record (alone r) {
      queue = bit_and number 0xff;
      descriptors = if bit_and number 0x100 == 0 then 1 else 0;
    })
    else Err NoQueue

-- a descriptor has 16 bytes, an entry of the available ring 2, and of the used ring fields of 4
unfoldable pub are_aligned : Rings → Bool
are_aligned r = r.descriptors % 16 == 0 && r.available % 2 == 0 && r.used % 4 == 0

-- the feature that what is written is marked in a log, and those of the protocol that this is in shared memory, and that
-- a state goes by a descriptor
abbrev pub log_all : ℕ
log_all = 0x4000000

abbrev pub log_shmfd : ℕ
log_shmfd = 2

abbrev pub device_state : ℕ
device_state = 0x80000

-- the flags of a ring can be: none, or bit 0, that what is written there is marked, if a log was offered
unfoldable pub can_be_logged : (flags features : ℕ) → Bool
can_be_logged flags features =
    flags == 0 || (flags == 1 && bit_and features log_all == log_all)

-- the rings of a queue
unfoldable pub rings_of : (body : List ℕ) → (features queues : ℕ) → Result Message Refusal
rings_of body features queues =
    if nat_lt (field 4 0 body) queues
    then (if can_be_logged (field 4 4 body) features
    then (if are_aligned (rings_in body)
    then Ok (record (alone SetVringAddr) {
      queue = field 4 0 body;
      number = field 4 4 body;
      rings = rings_in body;
    })
    else Err Misaligned)
    else Err Logs)
    else Err NoQueue

-- a log, if one was offered: it has bytes, and ends before 2^63 in its file
unfoldable pub log_of : Log → (protocol : ℕ) → Result Message Refusal
log_of l protocol =
    if bit_and protocol log_shmfd == log_shmfd
    then (if l.size == 0 then Err WrongLog
    else (if nat_lt (l.offset + l.size) (2 ^ 63)
    then Ok (record (alone SetLogBase) { descriptors = 1; log = l })
    else Err WrongLog))
    else Err NotOffered

-- which way a state goes, if that was offered: it is saved (0) or loaded (1), while the queues are stopped (0)
unfoldable pub transfer_of : (direction phase protocol : ℕ) → Result Message Refusal
transfer_of direction phase protocol =
    if bit_and protocol device_state == device_state
    then (if nat_lt direction 2
    then (if phase == 0
    then Ok (record (alone SetDeviceStateFd) { descriptors = 1; number = direction })
    else Err WrongTransfer)
    else Err WrongTransfer)
    else Err NotOffered

-- what a payload says, which has its request's size
unfoldable pub payload_of : Request → (body : List ℕ) → Offer → Result Message Refusal
payload_of SetFeatures body o = wanted SetFeatures (number 8 body) o.features
payload_of SetProtocolFeatures body o = wanted SetProtocolFeatures (number 8 body) o.protocol
payload_of SetMemTable body o = table_of body
payload_of SetVringNum body o = state_of SetVringNum body o.queues
payload_of SetVringBase body o = state_of SetVringBase body o.queues
payload_of GetVringBase body o = state_of GetVringBase body o.queues
payload_of SetVringEnable body o = state_of SetVringEnable body o.queues
payload_of SetVringAddr body o = rings_of body o.features o.queues
payload_of SetLogBase body o = log_of (log_in body) o.protocol
payload_of SetLogFd body o = if_offered log_shmfd o.protocol (record (alone SetLogFd) { descriptors = 1 })
payload_of SetDeviceStateFd body o = transfer_of (field 4 0 body) (field 4 4 body) o.protocol
payload_of CheckDeviceState body o = if_offered device_state o.protocol (alone CheckDeviceState)
payload_of SetVringKick body o = event_of SetVringKick (number 8 body) o.queues
payload_of SetVringCall body o = event_of SetVringCall (number 8 body) o.queues
payload_of SetVringErr body o = event_of SetVringErr (number 8 body) o.queues
payload_of GetFeatures body o = Ok (alone GetFeatures)
payload_of SetOwner body o = Ok (alone SetOwner)
payload_of ResetOwner body o = Ok (alone ResetOwner)
payload_of GetProtocolFeatures body o = Ok (alone GetProtocolFeatures)
payload_of GetQueueNum body o = Ok (alone GetQueueNum)

-- ---- messages

-- with the descriptors that it must have, and whether a reply is wanted
abbrev pub received : (descriptors flags : ℕ) → Result Message Refusal → Result Message Refusal
received descriptors flags (Err e) = Err e
received descriptors flags (Ok m) =
    if m.descriptors == descriptors
    then Ok (record m { wants_reply = if bit_and flags wants_bit == 0 then 0 else 1 })
    else Err WrongDescriptors

-- of what was asked
abbrev pub told : Head → (body : List ℕ) → (descriptors : ℕ) → Offer → Result Request Refusal
    → Result Message Refusal
told h body descriptors o (Err e) = Err e
told h body descriptors o (Ok r) =
    if length body == h.size then received descriptors h.flags (payload_of r body o) else Err Cut

-- a message of a header, a payload, and that many descriptors
unfoldable pub message_of : (head body : List ℕ) → (descriptors : ℕ) → Offer → Result Message Refusal
message_of bytes body descriptors o =
    if length bytes == 12
    then told (head_in bytes) body descriptors o (asked_by (head_in bytes))
    else Err Cut
