-- The error that a transport makes of one of segments.
use Rattle.vfs_segments.specs.declared.error.Error.{Error}
use Rattle.vfs_segments.specs.declared.error.Error.TheVariants.{DescriptorChainOverflow, SplitOutOfBounds, IoError}
use Rattle.vfs_segments.specs.declared.error.Error.TheVariants as segments
use Rattle.vfs_server.specs.declared.transport.error.ServeError.{ServeError}
use Rattle.vfs_server.specs.declared.transport.error.ServeError.TheVariants.{OutOfMemory, Segments}

abbrev pub of_segments : Error → ServeError
of_segments DescriptorChainOverflow = Segments DescriptorChainOverflow
of_segments (SplitOutOfBounds place) = Segments (SplitOutOfBounds place)
of_segments IoError = Segments IoError
of_segments segments.OutOfMemory = OutOfMemory
