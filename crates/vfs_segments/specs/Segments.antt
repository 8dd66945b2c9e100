-- Memory that is cut into segments, seen as one list of bytes.
pub use Rattle.vfs_segments.specs.Memory.{segments_of, contents, flat_bytes, lengths_of}
unfoldable pub use Rattle.vfs_segments.specs.Memory.{with_bytes_at}
