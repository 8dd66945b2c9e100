use Rattle.std.proofs.Common.{◌≡◌, ◌≤◌, ◌<◌, true, false, length, nat_lt, arith, refl}
use Rattle.std.proofs.lemmas.Bool.Decides.{nat_tests}
use Rattle.vfs_grammar.specs.Records.{size_of}
use Rattle.codec_decode.proofs.at_once.record_in.Goals as goal

pub returns-then-rest-SIZE : goal.returns-then-rest-SIZE
returns-then-rest-SIZE g c =
    let t = g.T.ByteValued.table in
    let short : length c.args.rest.now < size_of t = omega (arith, g.met.T.ByteValued.size_is, c.SIZE.ensures, c.if-rest-SIZE.true) in
    let test : nat_lt (length c.args.rest.now) (size_of t) ≡ true = grind (arith, nat_tests, short) in
    rw test refl

pub returns : goal.returns
returns g c =
    let t = g.T.ByteValued.table in
    let whole : size_of t ≤ length c.args.rest.now = omega (arith, g.met.T.ByteValued.size_is, c.SIZE.ensures, c.if-rest-SIZE.false) in
    let test : nat_lt (length c.args.rest.now) (size_of t) ≡ false = grind (arith, nat_tests, whole) in
    rw (test, c.part_at.ensures.read) refl
