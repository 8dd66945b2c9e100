use Rattle.std.proofs.Common.{None, Ok, refl}
use Rattle.vfs_files.specs.Calls.{Call, Handed}
use Rattle.vfs_files.specs.Values.{context_of}
use Rattle.vfs_files.specs.declared.entry.Context.{Context}
use Rattle.vfs_listings.specs.Reading.{GivesBack}
use Rattle.vfs_grammar.specs.Listing.{Verdict, Fits, Full, Fails}
use Rattle.vfs_listings.proofs.listing.add_line.Goals as goal

-- an item that got no entry gives none back
none_back : {S I : Type 0} (allows : S → Call → Handed I → S → Type 0) (ctx : Context) (v : Verdict)
    (s : S) → GivesBack allows ctx v (Ok None) s s
none_back allows ctx Fits s = refl
none_back allows ctx Full s = refl
none_back allows ctx (Fails fault) s = refl

pub returns-else-plus : goal.returns-else-plus
returns-else-plus g c = record {
  got = Ok None;
  middle = c.args.fs.now;
  looks_up = rw c.if-plus.false (refl, refl);
  adds = c.add_plain.ensures;
  gives_back = none_back {I = g.row.F-DirIter.Denot} g.F.FileSystem.allows (context_of c.args.header.now) _ c.args.fs.now;
}
