-- What slots hold is one.
use Rattle.std.proofs.Common.{◌≡◌, ℕ}
use Rattle.rq_page.specs.declared.cell.Cell.{Cell}
use Rattle.rq_page.specs.declared.client.ClientSlot.{ClientSlot}
use Rattle.rq_page.specs.declared.directory.Directory.{Directory}
use Rattle.rq_page.specs.Slots.Slot.{Client, Free, Used, Sender}

pub sender_same : (s r : ℕ) (d e : Directory) → Sender s d ≡ Sender r e → d ≡ e
sender_same s r d e h = cc

pub client_same : (c d : ClientSlot) → Client c ≡ Client d → c ≡ d
client_same c d h = cc

pub used_free : (c : Cell) → Used c ≡ Free → ⊥
used_free c h = cc
