-- What hearing leaves as it was.
use Rattle.std.specs.Prelude.{◌≡◌, Option, Some, None, ⊤}
use Rattle.rq_server.specs.declared.connection.Connection.{Connection}

-- the session is as it was, with the commit that it waits for and the call that is held
pub record IsHeard (old new : Connection) : Type 0 where
  pub serving : new.serving ≡ old.serving
  pub awaited : new.awaited ≡ old.awaited
  pub held : new.is_held ≡ old.is_held

abbrev pub AreHeard : Option Connection → Option Connection → Type 0
AreHeard None None = ⊤
AreHeard (Some old) (Some new) = IsHeard old new
AreHeard _ _ = ⊥
