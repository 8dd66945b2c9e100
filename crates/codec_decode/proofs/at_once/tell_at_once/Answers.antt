use Rattle.std.proofs.Common.{◌≡◌, ◌∙◌, ap, arith, refl, Some}
use Rattle.vfs_flags.specs.Numbers.{opcode_of}
use Rattle.vfs_flags.specs.declared.opcode.Opcode.TheVariants as opcode
use Rattle.codec_decode.proofs.AtOnce.{asks_by_opcode, tells_at_once}
use Rattle.codec_decode.proofs.at_once.tell_at_once.Goals as goal

lookup : opcode_of 1 ≡ Some opcode.Lookup
unfolding opcode_of
lookup = refl

getattr : opcode_of 3 ≡ Some opcode.Getattr
unfolding opcode_of
getattr = refl

read : opcode_of 15 ≡ Some opcode.Read
unfolding opcode_of
read = refl

write : opcode_of 16 ≡ Some opcode.Write
unfolding opcode_of
write = refl

pub returns-then-header-clause-told : goal.returns-then-header-clause-told
returns-then-header-clause-told c = λ said.
    tells_at_once c.args.terms c.args.header.now c.args.rest.now opcode.Lookup c.tell_lookup.new.call c.requires.fits
    (omega (arith, c.max_len.ensures, c.if-header-max_len.false)) (λ e. omega (arith, e, c.if-header.true))
    (ap opcode_of c.if-header.true ∙ lookup) (λ e. let a = e in cc) (λ e. let a = e in cc) (λ e. let a = e in cc) refl
    (c.tell_lookup.ensures.told said)

pub returns-then-header-2-clause-told : goal.returns-then-header-2-clause-told
returns-then-header-2-clause-told c = λ said.
    tells_at_once c.args.terms c.args.header.now c.args.rest.now opcode.Getattr c.tell_getattr.new.call c.requires.fits
    (omega (arith, c.max_len.ensures, c.if-header-max_len.false)) (λ e. omega (arith, e, c.if-header-2.true))
    (ap opcode_of c.if-header-2.true ∙ getattr) (λ e. let a = e in cc) (λ e. let a = e in cc) (λ e. let a = e in cc) refl
    (c.tell_getattr.ensures.told said)

pub returns-then-header-3-clause-told : goal.returns-then-header-3-clause-told
returns-then-header-3-clause-told c = λ said.
    tells_at_once c.args.terms c.args.header.now c.args.rest.now opcode.Read c.tell_read.new.call c.requires.fits
    (omega (arith, c.max_len.ensures, c.if-header-max_len.false)) (λ e. omega (arith, e, c.if-header-3.true))
    (ap opcode_of c.if-header-3.true ∙ read) (λ e. let a = e in cc) (λ e. let a = e in cc) (λ e. let a = e in cc) refl
    (c.tell_read.ensures.told said)

pub returns-then-header-4-clause-told : goal.returns-then-header-4-clause-told
returns-then-header-4-clause-told c = λ said.
    tells_at_once c.args.terms c.args.header.now c.args.rest.now opcode.Write c.tell_write.new.call c.requires.fits
    (omega (arith, c.max_len.ensures, c.if-header-max_len.false)) (λ e. omega (arith, e, c.if-header-4.true))
    (ap opcode_of c.if-header-4.true ∙ write) (λ e. let a = e in cc) (λ e. let a = e in cc) (λ e. let a = e in cc) refl
    (c.tell_write.ensures.told said)

pub returns-then-header-clause-all : goal.returns-then-header-clause-all
returns-then-header-clause-all c = λ most asks.
    c.tell_lookup.ensures.all (asks_by_opcode c.args.terms c.args.header.now c.args.rest.now opcode.Lookup
    (omega (arith, c.max_len.ensures, c.if-header-max_len.false)) (ap opcode_of c.if-header.true ∙ lookup) asks)

pub returns-then-header-2-clause-all : goal.returns-then-header-2-clause-all
returns-then-header-2-clause-all c = λ most asks.
    c.tell_getattr.ensures.all (asks_by_opcode c.args.terms c.args.header.now c.args.rest.now opcode.Getattr
    (omega (arith, c.max_len.ensures, c.if-header-max_len.false)) (ap opcode_of c.if-header-2.true ∙ getattr) asks)

pub returns-then-header-3-clause-all : goal.returns-then-header-3-clause-all
returns-then-header-3-clause-all c = λ most asks.
    c.tell_read.ensures.all (asks_by_opcode c.args.terms c.args.header.now c.args.rest.now opcode.Read
    (omega (arith, c.max_len.ensures, c.if-header-max_len.false)) (ap opcode_of c.if-header-3.true ∙ read) asks)

pub returns-then-header-4-clause-all : goal.returns-then-header-4-clause-all
returns-then-header-4-clause-all c = λ most asks.
    c.tell_write.ensures.all (asks_by_opcode c.args.terms c.args.header.now c.args.rest.now opcode.Write
    (omega (arith, c.max_len.ensures, c.if-header-max_len.false)) (ap opcode_of c.if-header-4.true ∙ write) asks)
