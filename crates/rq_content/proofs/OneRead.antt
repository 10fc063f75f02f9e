-- What is read of a sender, and of all of them.
use Rattle.std.proofs.Common.{◌≡◌, ℕ, suc, ◌+◌, ◌-◌, ◌<◌, List, [], ◌∷◌, ◌++◌, length, map, reverse, refl, sym, ◌∙◌, ap, subst, Bool, arith, Option, Some, None}
use Rattle.std.specs.Option.{unwrap_or}
use Rattle.std.proofs.lemmas.List.{map-append, reverse-append}
use Rattle.rq_model.specs.declared.message.Message.{Message}
use Rattle.rq_model.specs.declared.refusal.Refusal.{Refusal}
use Rattle.rq_model.specs.History.{Group}
use Rattle.rq_model.specs.Tests.{below}
use Rattle.rq_page.specs.declared.directory.Directory.{Directory}
use Rattle.rq_page.specs.Sizes.{Sizes, directory_at, sender_count}
use Rattle.rq_page.specs.Slots.Slot.{Sender}
use Rattle.rq_views.specs.Chain.{Cells}
use Rattle.rq_views.specs.Stored.{slots_in}
use Rattle.rq_txn.specs.Rows.{Row}
use Rattle.rq_content.specs.declared.GroupContent.{GroupContent}
use Rattle.rq_content.specs.Read.{Before, start, without_all, without_oldest, without_rows, or_else, met, cells_in, directory_of, shown_group, read_directory, read_before, read_group, group_of, IsBroken, IsShort}

pub or_else_is : (o : Option ℕ) (n : ℕ) → unwrap_or o n ≡ or_else o n
or_else_is None n = refl
or_else_is (Some p) n = refl

rows_last : (s : ℕ) (rows : List Row) (r : Row) (b : Before) → without_rows s (rows ++ r ∷ []) b ≡ without_rows s rows (without_all s r.finished b)
rows_last s [] r b = refl
rows_last s (q ∷ rows) r b = ap (without_all s q.finished) (rows_last s rows r b)

-- from the oldest on is the same as with the newest first
pub oldest_first : (s : ℕ) (rows : List Row) (b : Before) → without_oldest s rows b ≡ without_rows s (reverse rows) b
oldest_first s [] b = refl
oldest_first s (r ∷ rows) b = oldest_first s rows (without_all s r.finished b) ∙ sym (rows_last s (reverse rows) r b) ∙ ap (λ l. without_rows s l b) (sym (reverse-append (r ∷ []) rows))

pub fields_are : (sent tag received count : ℕ) (closed : Bool) (rest : List Message) (m : Cells) (s : ℕ) (d : Directory) (b : Before)
    → sent ≡ b.sent → tag ≡ or_else b.previous d.last_tag → received ≡ d.received - length b.taken → closed ≡ b.closed → rest ≡ b.taken ++ met m s d.head (b.sent - d.received)
    → ◌≡◌ {A = Group} (record { sent = sent; last_tag = tag; received = received; closed = closed; rest = rest }) (shown_group m s d b)
fields_are sent tag received count closed rest m s d b e1 e2 e3 e4 e5 =
    let g : (v : ℕ) (w : ℕ) (x : ℕ) (y : Bool) (z : List Message) → Group = λ v w x y z. record { sent = v; last_tag = w; received = x; closed = y; rest = z } in
    ap (λ v. g v tag received closed rest) e1 ∙ ap (λ w. g b.sent w received closed rest) e2 ∙ ap (λ x. g b.sent (or_else b.previous d.last_tag) x closed rest) e3
    ∙ ap (λ y. g b.sent (or_else b.previous d.last_tag) (d.received - length b.taken) y rest) e4
    ∙ ap (λ z. g b.sent (or_else b.previous d.last_tag) (d.received - length b.taken) b.closed z) e5

-- what the code has of a sender is what the images and the rows say
pub record Has (z : Sizes) (images : List (List ℕ)) (rows : List Row) (s : ℕ) (d : Directory) (b : Before) : Type 0 where
  pub held : slots_in z images (directory_at s) ≡ Sender s d
  pub before : b ≡ without_rows s rows (start d)

-- the directory slot as it stands, with what the rows did left out
pub has_read : (z : Sizes) (images : List (List ℕ)) (oldest rows : List Row) (s : ℕ) (d : Directory) (first b : Before) → slots_in z images (directory_at s) ≡ Sender s d
    → first ≡ start d → reverse oldest ≡ rows → b ≡ without_oldest s oldest first → Has z images rows s d b
has_read z images oldest rows s d first b held begun same left = record {
  held = held;
  before = left ∙ oldest_first s oldest first ∙ ap (without_rows s (reverse oldest)) begun ∙ ap (λ l. without_rows s l (start d)) same;
}

pub read_is : (z : Sizes) (images : List (List ℕ)) (rows : List Row) (s : ℕ) (d : Directory) (b : Before) (P : Directory → Before → Type 0) → Has z images rows s d b → P d b → P (read_directory z images s) (read_before z images rows s)
read_is z images rows s d b P h p =
    let e : read_directory z images s ≡ d = ap directory_of h.held in
    let q : P d (without_rows s rows (start d)) = subst (P d) h.before p in
    subst (λ x. P x (without_rows s rows (start x))) (sym e) q

pub shown_is : (z : Sizes) (images : List (List ℕ)) (rows : List Row) (s : ℕ) (d : Directory) (b : Before) (tag received count : ℕ) (rest : List Message) → Has z images rows s d b
    → tag ≡ or_else b.previous d.last_tag → received ≡ d.received - length b.taken → count ≡ b.sent - d.received → rest ≡ b.taken ++ met (cells_in z images) s d.head count
    → ◌≡◌ {A = Group} (record { sent = b.sent; last_tag = tag; received = received; closed = b.closed; rest = rest }) (read_group z images rows s)
shown_is z images rows s d b tag received count rest h e2 e3 n e5 =
    let got : Group = record { sent = b.sent; last_tag = tag; received = received; closed = b.closed; rest = rest } in
    let m = cells_in z images in
    read_is z images rows s d b (λ x y. got ≡ shown_group m s x y) h
    (fields_are b.sent tag received count b.closed rest m s d b refl e2 e3 refl (e5 ∙ ap (λ k. b.taken ++ met m s d.head k) n))

-- the chain has fewer cells
abbrev Short : Cells → ℕ → Directory → Before → Type 0
Short m s d b = length (met m s d.head (b.sent - d.received)) < b.sent - d.received

pub broken_is : (z : Sizes) (images : List (List ℕ)) (rows : List Row) (s : ℕ) (d : Directory) (b : Before) (count : ℕ) (r : Refusal) → Has z images rows s d b → s < sender_count z → count ≡ b.sent - d.received
    → IsShort (cells_in z images) s d.head count r → IsBroken z images rows r
broken_is z images rows s d b count r h lt n w = record {
  sender = s;
  below = lt;
  page = w.0;
  short = read_is z images rows s d b (Short (cells_in z images) s) h (subst (λ k. length (met (cells_in z images) s d.head k) < k) n w.1);
}

-- one more sender is read
pub groups_more : (f : ℕ → Group) (n : ℕ) (gs hs : List GroupContent) (g : GroupContent) → map group_of gs ≡ map f (below n) → hs ≡ gs ++ g ∷ [] → group_of g ≡ f n → map group_of hs ≡ map f (below (n + 1))
groups_more f n gs hs g h e k =
    let one : n + 1 ≡ suc n = omega arith in
    ap (map group_of) e ∙ map-append group_of gs (g ∷ []) ∙ ap (λ l. l ++ group_of g ∷ []) h ∙ ap (λ x. map f (below n) ++ x ∷ []) k ∙ sym (map-append f (below n) (n ∷ [])) ∙ ap (λ k. map f (below k)) (sym one)
