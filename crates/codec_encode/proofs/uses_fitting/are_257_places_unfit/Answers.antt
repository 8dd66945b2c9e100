use Rattle.codec_encode.proofs.uses_fitting.are_257_places_unfit.Goals as goal

pub returns : goal.returns
returns c =
    let p = c.requires.places in
    rw (c.requires.asked, c.requires.fine, p.1, p.2, p.3, p.4) at c.is_unfit.ensures
