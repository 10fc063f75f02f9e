use Rattle.rq_restart.proofs.analysis.Analysis.note.Goals as goal

pub returns-clause-same : goal.returns-clause-same
returns-clause-same c = tt

pub returns-clause-grows : goal.returns-clause-grows
returns-clause-grows c = tt
