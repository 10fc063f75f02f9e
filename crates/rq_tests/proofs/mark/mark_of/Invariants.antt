use Rattle.rq_engine.specs.Earlier.{IsSoundOver}
use Rattle.rq_tests.proofs.mark.mark_of.Given as goal

-- the ledger is that of the blank
abbrev pub ghosts-marked-G-Ledger : goal.ghosts-marked-G-Ledger
ghosts-marked-G-Ledger g a = record { name = a.blank.name; parts = a.blank.parts }

-- the premise is that the engine which is shared is sound, the ledger of what is taken is that of the second blank, and the
-- sharing begins with that engine
abbrev pub ghosts-marked-G-Sharing : goal.ghosts-marked-G-Sharing
ghosts-marked-G-Sharing g a = record {
  premise = IsSoundOver a.engine.state;
  taking = a.taking.name;
  begins = a.engine.state;
}
