-- The numbers of requests, of extensions and of errors. Of the promise only `ext_type_of` is to be read:
-- `tests/c/kernel.py` compiles the others against the kernel's headers.
use Rattle.std.specs.Prelude.{◌≢◌, ◌≤◌, ◌==◌, ℕ, Option, Some, None, if◌then◌else◌, nat_lt}
use Rattle.vfs_flags.specs.declared.opcode.Opcode.{Opcode}
use Rattle.vfs_flags.specs.declared.opcode.Opcode.TheVariants.{Lookup, Forget, Getattr, Setattr, Readlink, Symlink, Mknod, Mkdir, Unlink, Rmdir, Rename, Link, Open, Read, Write, Statfs, Release, Fsync, Setxattr, Getxattr, Listxattr, Removexattr, Flush, Init, Opendir, Readdir, Releasedir, Fsyncdir, Getlk, Setlk, Setlkw, Access, Create, Interrupt, Bmap, Destroy, Ioctl, Poll, NotifyReply, BatchForget, Fallocate, Readdirplus, Rename2, Lseek, CopyFileRange, SetupMapping, RemoveMapping, Syncfs, TmpFile}
use Rattle.vfs_flags.specs.declared.ext_type.ExtType.{ExtType}
use Rattle.vfs_flags.specs.declared.ext_type.ExtType.TheVariants.{SecCtx, SupGroups}

-- ---- requests

-- the opcode of a number, where it has one
unfoldable pub opcode_of : ℕ → Option Opcode
opcode_of n =
    if n == 1 then Some Lookup else if n == 2 then Some Forget else
    if n == 3 then Some Getattr else if n == 4 then Some Setattr else
    if n == 5 then Some Readlink else if n == 6 then Some Symlink else
    if n == 8 then Some Mknod else if n == 9 then Some Mkdir else
    if n == 10 then Some Unlink else if n == 11 then Some Rmdir else
    if n == 12 then Some Rename else if n == 13 then Some Link else
    if n == 14 then Some Open else if n == 15 then Some Read else
    if n == 16 then Some Write else if n == 17 then Some Statfs else
    if n == 18 then Some Release else if n == 20 then Some Fsync else
    if n == 21 then Some Setxattr else if n == 22 then Some Getxattr else
    if n == 23 then Some Listxattr else if n == 24 then Some Removexattr else
    if n == 25 then Some Flush else if n == 26 then Some Init else
    if n == 27 then Some Opendir else if n == 28 then Some Readdir else
    if n == 29 then Some Releasedir else if n == 30 then Some Fsyncdir else
    if n == 31 then Some Getlk else if n == 32 then Some Setlk else
    if n == 33 then Some Setlkw else if n == 34 then Some Access else
    if n == 35 then Some Create else if n == 36 then Some Interrupt else
    if n == 37 then Some Bmap else if n == 38 then Some Destroy else
    if n == 39 then Some Ioctl else if n == 40 then Some Poll else
    if n == 41 then Some NotifyReply else if n == 42 then Some BatchForget else
    if n == 43 then Some Fallocate else if n == 44 then Some Readdirplus else
    if n == 45 then Some Rename2 else if n == 46 then Some Lseek else
    if n == 47 then Some CopyFileRange else if n == 48 then Some SetupMapping else
    if n == 49 then Some RemoveMapping else if n == 50 then Some Syncfs else
    if n == 51 then Some TmpFile else None

-- the number of an opcode
abbrev pub number_of : Opcode → ℕ
number_of Lookup = 1
number_of Forget = 2
number_of Getattr = 3
number_of Setattr = 4
number_of Readlink = 5
number_of Symlink = 6
number_of Mknod = 8
number_of Mkdir = 9
number_of Unlink = 10
number_of Rmdir = 11
number_of Rename = 12
number_of Link = 13
number_of Open = 14
number_of Read = 15
number_of Write = 16
number_of Statfs = 17
number_of Release = 18
number_of Fsync = 20
number_of Setxattr = 21
number_of Getxattr = 22
number_of Listxattr = 23
number_of Removexattr = 24
number_of Flush = 25
number_of Init = 26
number_of Opendir = 27
number_of Readdir = 28
number_of Releasedir = 29
number_of Fsyncdir = 30
number_of Getlk = 31
number_of Setlk = 32
number_of Setlkw = 33
number_of Access = 34
number_of Create = 35
number_of Interrupt = 36
number_of Bmap = 37
number_of Destroy = 38
number_of Ioctl = 39
number_of Poll = 40
number_of NotifyReply = 41
number_of BatchForget = 42
number_of Fallocate = 43
number_of Readdirplus = 44
number_of Rename2 = 45
number_of Lseek = 46
number_of CopyFileRange = 47
number_of SetupMapping = 48
number_of RemoveMapping = 49
number_of Syncfs = 50
number_of TmpFile = 51

-- the numbers that have an opcode
abbrev pub IsOpcode : ℕ → Type 0
IsOpcode n = (1 ≤ n) × (n ≤ 51) × (n ≢ 7) × (n ≢ 19)

-- ---- extensions

-- the kind of an extension's type, where it has one: below 32 that many contexts, at 32 groups
abbrev pub ext_type_of : ℕ → Option ExtType
ext_type_of n = if nat_lt n 32 then Some (SecCtx n) else if n == 32 then Some SupGroups else None

-- ---- the error numbers of Linux that the protocol and its file systems answer

-- the caller may not do this
abbrev pub eperm : ℕ
eperm = 1

-- there is no entry of this name
abbrev pub enoent : ℕ
enoent = 2

-- input or output failed, or a fault has no number
abbrev pub eio : ℕ
eio = 5

-- there is nothing there, after the end of a file say
abbrev pub enxio : ℕ
enxio = 6

-- the handle is of no open file
abbrev pub ebadf : ℕ
ebadf = 9

-- memory is wanting, or a message is too long
abbrev pub enomem : ℕ
enomem = 12

-- the modes of the file do not allow this
abbrev pub eacces : ℕ
eacces = 13

-- there is an entry of this name already
abbrev pub eexist : ℕ
eexist = 17

-- the two names lie on different mounts
abbrev pub exdev : ℕ
exdev = 18

-- the node has no such operation, being no file
abbrev pub enodev : ℕ
enodev = 19

-- the node is no directory
abbrev pub enotdir : ℕ
enotdir = 20

-- the node is a directory
abbrev pub eisdir : ℕ
eisdir = 21

-- an argument makes no sense here
abbrev pub einval : ℕ
einval = 22

-- a file would be longer than one may be
abbrev pub efbig : ℕ
efbig = 27

-- the file system has no room left
abbrev pub enospc : ℕ
enospc = 28

-- the file system is mounted to be read only
abbrev pub erofs : ℕ
erofs = 30

-- a node has as many names as it may have
abbrev pub emlink : ℕ
emlink = 31

-- the value is longer than the room that was left for it
abbrev pub erange : ℕ
erange = 34

-- a name is longer than the file system takes
abbrev pub enametoolong : ℕ
enametoolong = 36

-- the request is not served
abbrev pub enosys : ℕ
enosys = 38

-- the directory still has entries
abbrev pub enotempty : ℕ
enotempty = 39

-- there is no extended attribute of this name
abbrev pub enodata : ℕ
enodata = 61

-- the version of the protocol is not served
abbrev pub eproto : ℕ
eproto = 71

-- a number has no place in the record that should hold it
abbrev pub eoverflow : ℕ
eoverflow = 75

-- the file has no such operation
abbrev pub eopnotsupp : ℕ
eopnotsupp = 95
