-- The numbers of requests and of refusals.
use Rattle.std.specs.Prelude.{◌==◌, ℕ, Option, Some, None, if◌then◌else◌}
use Rattle.vhost_protocol.specs.declared.numbers.ChainRefusal.{ChainRefusal}
use Rattle.vhost_protocol.specs.declared.numbers.ChainRefusal.TheVariants.{OutsideTable, LongerThanTable, Outside, PastEnd, ReadableAfterWritable, TooManyBytes, TableInTable, TableGoesOn, TableSize, TooManyEntries}
use Rattle.vhost_protocol.specs.declared.numbers.Refusal.{Refusal}
use Rattle.vhost_protocol.specs.declared.numbers.Refusal.TheVariants.{Cut, WrongVersion, IsReply, NotServed, WrongSize, WrongDescriptors, NotOffered, NoQueue, WrongQueueSize, WrongBase, WrongEnable, Logs, Misaligned, WrongCount, EmptyRegion, GuestRange, UserRange, FileRange, Overlap, WrongLog, WrongTransfer}
use Rattle.vhost_protocol.specs.declared.numbers.Request.{Request}
use Rattle.vhost_protocol.specs.declared.numbers.Request.TheVariants.{GetFeatures, SetFeatures, SetOwner, ResetOwner, SetMemTable, SetVringNum, SetVringAddr, SetVringBase, GetVringBase, SetVringKick, SetVringCall, SetVringErr, GetProtocolFeatures, SetProtocolFeatures, GetQueueNum, SetVringEnable, SetLogBase, SetLogFd, SetDeviceStateFd, CheckDeviceState}

-- the request of a number, where it is served
unfoldable pub request_of : ℕ → Option Request
request_of n =
    if n == 1 then Some GetFeatures else if n == 2 then Some SetFeatures else
    if n == 3 then Some SetOwner else if n == 4 then Some ResetOwner else
    if n == 5 then Some SetMemTable else if n == 6 then Some SetLogBase else
    if n == 7 then Some SetLogFd else if n == 8 then Some SetVringNum else
    if n == 9 then Some SetVringAddr else if n == 10 then Some SetVringBase else
    if n == 11 then Some GetVringBase else if n == 12 then Some SetVringKick else
    if n == 13 then Some SetVringCall else if n == 14 then Some SetVringErr else
    if n == 15 then Some GetProtocolFeatures else if n == 16 then Some SetProtocolFeatures else
    if n == 17 then Some GetQueueNum else if n == 18 then Some SetVringEnable else
    if n == 42 then Some SetDeviceStateFd else if n == 43 then Some CheckDeviceState else None

-- the number of a request
abbrev pub request_number : Request → ℕ
request_number GetFeatures = 1
request_number SetFeatures = 2
request_number SetOwner = 3
request_number ResetOwner = 4
request_number SetMemTable = 5
request_number SetLogBase = 6
request_number SetLogFd = 7
request_number SetVringNum = 8
request_number SetVringAddr = 9
request_number SetVringBase = 10
request_number GetVringBase = 11
request_number SetVringKick = 12
request_number SetVringCall = 13
request_number SetVringErr = 14
request_number GetProtocolFeatures = 15
request_number SetProtocolFeatures = 16
request_number GetQueueNum = 17
request_number SetVringEnable = 18
request_number SetDeviceStateFd = 42
request_number CheckDeviceState = 43

-- the number of a refusal of a message
abbrev pub refusal_number : Refusal → ℕ
refusal_number Cut = 1
refusal_number WrongVersion = 2
refusal_number IsReply = 3
refusal_number NotServed = 4
refusal_number WrongSize = 5
refusal_number WrongDescriptors = 6
refusal_number NotOffered = 7
refusal_number NoQueue = 8
refusal_number WrongQueueSize = 9
refusal_number WrongBase = 10
refusal_number WrongEnable = 11
refusal_number Logs = 12
refusal_number Misaligned = 13
refusal_number WrongCount = 14
refusal_number EmptyRegion = 15
refusal_number GuestRange = 16
refusal_number UserRange = 17
refusal_number FileRange = 18
refusal_number Overlap = 19
refusal_number WrongLog = 20
refusal_number WrongTransfer = 21

-- the number of a refusal of descriptors
abbrev pub chain_refusal_number : ChainRefusal → ℕ
chain_refusal_number OutsideTable = 3
chain_refusal_number LongerThanTable = 4
chain_refusal_number Outside = 5
chain_refusal_number PastEnd = 6
chain_refusal_number ReadableAfterWritable = 7
chain_refusal_number TooManyBytes = 8
chain_refusal_number TableInTable = 9
chain_refusal_number TableGoesOn = 10
chain_refusal_number TableSize = 11
chain_refusal_number TooManyEntries = 12
