-- Runs of calls of two devices: what a crash at each moment leaves of both, whichever of them a call changes.
use Rattle.std.specs.Prelude.{◌≡◌, ℕ, ◌≤◌, List}
use Rattle.rq_disk.specs.Device.{Images, Leaves}
use Rattle.rq_disk.specs.declared.device.LogDevice as log_device
use Rattle.rq_disk.specs.declared.device.PageDevice as page_device
use Rattle.rq_log.specs.Crash.{LeavesOnly}

-- The page reads as before, and a crash leaves nothing of it that it could not leave then.
abbrev pub KeepsPage : {P : Type 0} → page_device.Ghosts P → P → P → ℕ → Type 0
KeepsPage p old new page = (p.seen new page ≡ p.seen old page) × ((c : List ℕ) → p.may_be new page c → p.may_be old page c)

-- A crash at any moment since old leaves pages that have Q.
pub record PagesLeave {P : Type 0} (p : page_device.Ghosts P) (old new : P) (Q : Images → Type 0) : Type 0 where
  pub later : p.moment old ≤ p.moment new
  pub each : (images : Images) → p.left_since new (p.moment old) images → Q images

module _ {P L : Type 0} (p : page_device.Ghosts P) (l : log_device.Ghosts L) where
  -- each pair that a crash now may leave of both devices
  abbrev pub EachPair : P → L → (Images → List ℕ → Type 0) → Type 0
  EachPair pages log Q = (images : Images) (bytes : List ℕ) → Leaves (p.may_be pages) images → l.may_leave log bytes
      → Q images bytes

-- A run of calls of two devices, one device at a time. At each moment of each part, each pair that a crash may leave
-- has Q.
pub data Path {P L : Type 0} (p : page_device.Ghosts P) (l : log_device.Ghosts L) (Q : Images → List ℕ → Type 0) : P
    → L → P → L → Type 0 where
  Start : {pages : P} {log : L} → EachPair p l pages log Q → Path p l Q pages log pages log
  Pages : {pages mid new : P} {log now : L} → Path p l Q pages log mid now
      → PagesLeave p mid new (λ images. (bytes : List ℕ) → l.may_leave now bytes → Q images bytes)
      → Path p l Q pages log new now
  Log : {pages now : P} {log mid new : L} → Path p l Q pages log now mid
      → LeavesOnly l mid new (λ bytes. (images : Images) → Leaves (p.may_be now) images → Q images bytes)
      → Path p l Q pages log now new
