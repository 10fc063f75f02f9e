use Rattle.rq_engine.specs.Earlier.{IsSoundOver}
use Rattle.rq_tests.proofs.threads.look.Given as goal

-- the ledger is that of the blank
abbrev pub ghosts-share-G-Ledger : goal.ghosts-share-G-Ledger
ghosts-share-G-Ledger g a = record { name = a.blank.name; parts = a.blank.parts }

-- the premise is that the engine which is shared is sound, the ledger of what is taken is that of the second blank, and the
-- sharing begins with that engine
abbrev pub ghosts-share-G-Sharing : goal.ghosts-share-G-Sharing
ghosts-share-G-Sharing g a = record {
  premise = IsSoundOver a.engine.state;
  taking = a.taking.name;
  begins = a.engine.state;
}
