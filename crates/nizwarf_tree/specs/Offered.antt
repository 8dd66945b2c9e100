-- What a request asks of a server by the rows that its file system offers.
use Rattle.std.specs.Prelude.{◌≡◌, ℕ, List, max, min}
use Rattle.vfs_flags.specs.declared.constants.TheConstants.{GREATEST_MAX_BUFFER, LEAST_MAX_BUFFER}
use Rattle.vfs_grammar.specs.declared.limits.Limits.{Limits}
use Rattle.codec_calls.specs.declared.call.CallData.{CallData}
use Rattle.codec_decode.specs.Further.{What, Row, told_under, what_of}
use Rattle.vfs_server.specs.Step.{ServerState}
use Rattle.nizwarf_tree.specs.Files.{State}
use Rattle.nizwarf_tree.specs.declared.files.TheConstants.{OFFERS}

-- the limits that they are asked by: the server's largest payload, which is within those of all servers
abbrev pub row_limits : Limits → Limits
row_limits limits = record {
  page_size = 4096;
  max_buffer = max (min limits.max_buffer GREATEST_MAX_BUFFER) LEAST_MAX_BUFFER;
}

abbrev pub what_asked : Limits → (request : List ℕ) → What
what_asked limits q = what_of OFFERS (row_limits limits) q

-- a request asks this call of a row, with that many bytes of room
pub record AsksRow (server : ServerState State) (total : ℕ) (request : List ℕ) (call : CallData) : Type 0 where
  pub row : CallData
  pub asks : what_asked server.limits request ≡ Row row
  pub told : call ≡ told_under server.options total row
