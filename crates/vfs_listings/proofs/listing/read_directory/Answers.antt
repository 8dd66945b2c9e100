use Rattle.std.proofs.Common.{◌≡◌, Result, Ok, Err, ap, refl}
use Rattle.std.specs.Prelude.{IsErrAnd}
use Rattle.vfs_listings.proofs.Filling.{read_within}
use Rattle.vfs_listings.proofs.listing.read_directory.Goals as goal

-- an error that is passed on
passed_on : {A E : Type 0} (result : Result A E) (fault : E) → IsErrAnd result (λ e. e ≡ fault)
    → result ≡ Err fault
passed_on (Ok a) fault h = absurd h
passed_on (Err e) fault h = ap Err h

pub returns-in_err-it-clause-reads : goal.returns-in_err-it-clause-reads
returns-in_err-it-clause-reads g c = record {
  opened = Err c.in_err-it.field-0.0;
  middle = c.readdir.new.self;
  opens = rw (c.from.ensures, c.from_number.ensures, c.from_number-2.ensures) at
      c.in_err-it.ensures;
  reads = (
    passed_on c.from_residual.result c.in_err-it.field-0.0 c.from_residual.ensures.1,
    refl,
    refl,
  );
}

pub returns-clause-reads : goal.returns-clause-reads
returns-clause-reads g c = record {
  opened = Ok c.in_ok-it.it;
  middle = c.readdir.new.self;
  opens = rw (c.from.ensures, c.from_number.ensures, c.from_number-2.ensures) at c.in_ok-it.ensures;
  reads = c.read_items.ensures;
}

pub returns-clause-within : goal.returns-clause-within
returns-clause-within g c = read_within _ _ _ _ _ _ _ _ _ _ _ _ c.read_items.ensures
