-- The sizes of the payloads of requests.
use Rattle.std.specs.Prelude.{◌==◌, ◌%◌, ◌&&◌, ℕ, Bool, nat_le}
use Rattle.vhost_protocol.specs.declared.numbers.Request.{Request}
use Rattle.vhost_protocol.specs.declared.numbers.Request.TheVariants.{GetFeatures, SetFeatures, SetOwner, ResetOwner, SetMemTable, SetVringNum, SetVringAddr, SetVringBase, GetVringBase, SetVringKick, SetVringCall, SetVringErr, GetProtocolFeatures, SetProtocolFeatures, GetQueueNum, SetVringEnable, SetLogBase, SetLogFd, SetDeviceStateFd, CheckDeviceState}

-- The payload of a request has this size: that of a table of memory 8 bytes, and 32 for each of its regions, of
-- which there are 8 at most.
unfoldable pub has_size : Request → ℕ → Bool
has_size GetFeatures n = n == 0
has_size SetOwner n = n == 0
has_size ResetOwner n = n == 0
has_size GetProtocolFeatures n = n == 0
has_size GetQueueNum n = n == 0
has_size SetLogFd n = n == 0
has_size CheckDeviceState n = n == 0
has_size SetMemTable n = nat_le 8 n && nat_le n 264 && n % 32 == 8
has_size SetLogBase n = n == 16
has_size SetVringAddr n = n == 40
has_size SetFeatures n = n == 8
has_size SetVringNum n = n == 8
has_size SetVringBase n = n == 8
has_size GetVringBase n = n == 8
has_size SetVringKick n = n == 8
has_size SetVringCall n = n == 8
has_size SetVringErr n = n == 8
has_size SetProtocolFeatures n = n == 8
has_size SetVringEnable n = n == 8
has_size SetDeviceStateFd n = n == 8
