use Rattle.test_uses.proofs.small_laws.a_reading_leads_on.Goals as goal

pub returns : goal.returns
returns g c = λ ctx plus parent handle size offset old new before after result reads.
    let run = c.readings_are_runs.ensures ctx plus parent handle size offset old before result new after reads in
    (run.events, run.is_run)
