-- Checkpoints and migrations, by two stores in the same state.
use Rattle.std.proofs.Common.{◌≡◌, ◌≢◌, ℕ, ◌+◌, ◌≤◌, ◌<◌, List, [], ◌∷◌, length, refl, sym, ◌∙◌, ap, Bool, true, false, cond, ◌⊎◌, inl, inr, Option, Some, None, Result, Ok, Err, arith}
use Rattle.std.specs.Prelude.{IfErr, IfOk}
use Rattle.std.proofs.lemmas.Option.{same_Some}
use Rattle.rq_model.specs.declared.refusal.Refusal.{Refusal}
use Rattle.rq_model.specs.declared.refusal.Refusal.TheVariants as why
use Rattle.rq_model.specs.Tests.{bad_tags, log_full}
use Rattle.rq_disk.specs.Device.{Only}
use Rattle.rq_disk.specs.declared.device.LogDevice as log_device
use Rattle.rq_disk.specs.declared.device.PageDevice as page_device
use Rattle.rq_log.specs.Spelled.{spelled}
use Rattle.rq_page.specs.Formatted.{IsFormatted, IsHeaderFor}
use Rattle.rq_page.specs.Kinds.{kind_of}
use Rattle.rq_page.specs.declared.layout.PageKind.{PageKind}
use Rattle.rq_page.specs.Pages.{header_of}
use Rattle.rq_page.specs.Sizes.{Sizes, page_count, with_tags}
use Rattle.rq_txn.specs.Rows.{Row}
use Rattle.rq_pool.specs.Pooled.{image_at}
use Rattle.rq_pool.specs.Writing.{HasChangeBeyond, NoChangeBeyond}
use Rattle.rq_store.specs.State.{State, ledger_of, size_of}
use Rattle.rq_sound.specs.Calls.{checkpointed, migrated}
use Rattle.rq_engine.specs.Checkpoint.{HasMadeOneRecord, MayMakeOneRecord, NotCheckpointed}
use Rattle.rq_engine.specs.Migration.{HasMigrated, MayGetTags, NotMigrated}
use Rattle.rq_engine.specs.Opened.{OpenStore, pooled}
use Rattle.rq_laws.specs.Alike.{ReadAlike}
use Rattle.rq_laws.specs.Made.{MakeAlike, OnBoth}
use Rattle.rq_laws.specs.Refusals.{IsWant}
use Rattle.rq_laws.proofs.Ending.{some_none}

abbrev has_some : List Row → Bool
has_some [] = false
has_some (r ∷ rows) = true

rows_some : (rows : List Row) → rows ≢ [] → has_some rows ≡ true
rows_some [] other = absurd (other refl)
rows_some (r ∷ rows) other = refl

-- what of the lists refuses a checkpoint, and what a migration
abbrev refuses : State → Option Refusal
refuses s = cond s.failed (Some why.Failed) (cond (has_some s.rows) (Some why.NotQuiet) (cond (log_full (ledger_of s) 1) (Some why.LogFull) None))

abbrev refuses_tags : ℕ → State → Option Refusal
refuses_tags n s = cond s.failed (Some why.Failed) (cond (bad_tags (size_of s.sizes) n) (Some why.BadTags) (refuses s))

-- two pages that are formatted alike have the same header and the same slots
same_header : (k : Option PageKind) (page : ℕ) (c d : List ℕ) → IsHeaderFor k page 0 c → IsHeaderFor k page 0 d → header_of c ≡ header_of d
same_header None page c d f g = absurd f
same_header (Some k) page c d f g = f ∙ sym g

same_page : (z : Sizes) (page : ℕ) (c d : List ℕ) → IsFormatted z page c → IsFormatted z page d → ReadAlike c d
same_page z page c d f g = (same_header (kind_of z page) page c d f.header g.header, λ k low high. f.slots k low high ∙ sym (g.slots k low high))

module _ {P L : Type 0} (p : page_device.Ghosts P) (l : log_device.Ghosts L) (old : OpenStore P L) where
  -- it is the lists that refuse, for this or not at all, or a page, or a device
  abbrev WhyBy : Option Refusal → Refusal → Type 0
  WhyBy lists r = (lists ≡ Some r) ⊎ (HasChangeBeyond (pooled old) (length old.state.records) × (lists ≡ None) × (r ≡ why.NotForced)) ⊎ IsWant r

  beyond : NoChangeBeyond (pooled old) (length old.state.records) → HasChangeBeyond (pooled old) (length old.state.records) → ⊥
  beyond within some =
      let low = within some.0 some.1 some.2.changed in
      let high = some.3 in
      omega (arith, low, high)

  -- where one can be made, only a device refuses
  wanting : (lists : Option Refusal) (r : Refusal) → lists ≡ None → MayMakeOneRecord old → WhyBy lists r → IsWant r
  wanting lists r none could (inl e) = absurd (some_none r (sym e ∙ none))
  wanting lists r none could (inr (inl n)) = absurd (beyond could.within n.0)
  wanting lists r none could (inr (inr w)) = w

  both : (lists : Option Refusal) (r s : Refusal) → WhyBy lists r → WhyBy lists s → (r ≡ s) ⊎ (IsWant r ⊎ IsWant s)
  both lists r s (inl e) (inl f) = inl (same_Some r s (sym e ∙ f))
  both lists r s (inl e) (inr (inl n)) = absurd (some_none r (sym e ∙ n.1))
  both lists r s (inr (inl n)) (inl f) = absurd (some_none s (sym f ∙ n.1))
  both lists r s (inr (inl n)) (inr (inl m)) = inl (n.2 ∙ sym m.2)
  both lists r s (inr (inr w)) k = inr (inl w)
  both lists r s h (inr (inr w)) = inr (inr w)

  -- what a refusal leaves of the lists
  abbrev left_by : Refusal → State
  left_by why.DiskWrite = record old.state { failed = true }
  left_by _ = old.state

  -- one was made, which left this state
  record IsMade (lists : Option Refusal) (after : State) (new : OpenStore P L) (n : ℕ) : Type 0 where
    could : MayMakeOneRecord old
    none : lists ≡ None
    lsn : n ≡ length old.state.records + 1
    state : new.state ≡ after
    reads : l.honest new.log → l.seen new.log ≡ spelled new.state.records
    durable : l.honest new.log → Only (spelled new.state.records) (l.may_leave new.log)
    pages : p.honest new.pages → (q : ℕ) → 1 ≤ q → q < page_count old.state.sizes → Only (image_at old.state.images q) (p.may_be new.pages q)

  -- none was
  record IsRefused (lists : Option Refusal) (new : OpenStore P L) (r : Refusal) : Type 0 where
    cause : WhyBy lists r
    state : new.state ≡ left_by r
    same : r ≢ why.DiskWrite → new ≡ old
    memory : r ≢ why.NoMemory

  -- what an answer says
  record IsSaid (lists : Option Refusal) (after : State) (new : OpenStore P L) (a : Result ℕ Refusal) : Type 0 where
    made : IfOk a (IsMade lists after new)
    refused : IfErr a (IsRefused lists new)

  alike : (lists : Option Refusal) (after : State) (x y : OpenStore P L) (a b : Result ℕ Refusal) → IsSaid lists after x a → IsSaid lists after y b → MakeAlike p l old x y a b
  alike lists after x y (Ok i) (Ok j) m n =
      let state : x.state ≡ y.state = m.made.state ∙ sym n.made.state in
      let told : spelled x.state.records ≡ spelled y.state.records = ap (λ (s : State). spelled s.records) state in
      record {
        same = m.made.lsn ∙ sym n.made.lsn;
        state = state;
        stopped = tt;
        refused = tt;
        memory = tt;
        reads = λ h k. m.made.reads h ∙ told ∙ sym (n.made.reads k);
        durable = λ h k c d f g. m.made.durable h c f ∙ told ∙ sym (n.made.durable k d g);
        pages = λ h k q low high c d f g. m.made.pages h q low high c f ∙ sym (n.made.pages k q low high d g);
        decided = tt;
      }
  alike lists after x y (Ok i) (Err s) m n = record {
    same = tt;
    state = tt;
    stopped = tt;
    refused = tt;
    memory = tt;
    reads = tt;
    durable = tt;
    pages = tt;
    decided = wanting lists s m.made.none m.made.could n.refused.cause;
  }
  alike lists after x y (Err r) (Ok j) m n = record {
    same = tt;
    state = tt;
    stopped = tt;
    refused = m.refused.same;
    memory = m.refused.memory;
    reads = tt;
    durable = tt;
    pages = tt;
    decided = wanting lists r n.made.none n.made.could m.refused.cause;
  }
  alike lists after x y (Err r) (Err s) m n = record {
    same = tt;
    state = tt;
    stopped = λ e. m.refused.state ∙ ap left_by e ∙ sym n.refused.state;
    refused = m.refused.same;
    memory = m.refused.memory;
    reads = tt;
    durable = tt;
    pages = tt;
    decided = both lists r s m.refused.cause n.refused.cause;
  }

  -- ---- checkpoints

  abbrev no_cause : old.state.failed ≡ false → old.state.rows ≡ [] → log_full (ledger_of old.state) 1 ≡ false → refuses old.state ≡ None
  no_cause runs none room = rw (runs, ap has_some none, room) refl

  not_made : (new : OpenStore P L) (r : Refusal) → NotCheckpointed p l old new r → IsRefused (refuses old.state) new r
  not_made new why.Failed n = record { cause = inl (rw n.0 refl); state = ap (λ (o : OpenStore P L). o.state) n.1; same = λ _. n.1; memory = λ e. cc }
  not_made new why.NotQuiet n = record { cause = inl (rw (n.0, rows_some old.state.rows n.1) refl); state = ap (λ (o : OpenStore P L). o.state) n.2; same = λ _. n.2; memory = λ e. cc }
  not_made new why.LogFull n = record { cause = inl (rw (n.0, ap has_some n.1, n.2) refl); state = ap (λ (o : OpenStore P L). o.state) n.3; same = λ _. n.3; memory = λ e. cc }
  not_made new why.NotForced n = record { cause = inr (inl (n.3, no_cause n.0 n.1 n.2, refl)); state = ap (λ (o : OpenStore P L). o.state) n.4; same = λ _. n.4; memory = λ e. cc }
  not_made new why.DiskWrite n = record { cause = inr (inr tt); state = n.0.state; same = λ other. absurd (other refl); memory = λ e. cc }
  not_made new _ n = absurd n

  pub checkpoints_alike : (x y : OpenStore P L) (a b : Result ℕ Refusal) → IfOk a (HasMadeOneRecord p l old x) → IfErr a (NotCheckpointed p l old x)
      → IfOk b (HasMadeOneRecord p l old y) → IfErr b (NotCheckpointed p l old y) → MakeAlike p l old x y a b
  checkpoints_alike x y a b made refused made_too refused_too =
      alike (refuses old.state) (checkpointed old.state) x y a b (said x a made refused) (said y b made_too refused_too) where
        said : (new : OpenStore P L) (a : Result ℕ Refusal) → IfOk a (HasMadeOneRecord p l old new) → IfErr a (NotCheckpointed p l old new) → IsSaid (refuses old.state) (checkpointed old.state) new a
        said new (Ok n) m r = record {
          made = record { could = m.could; none = no_cause m.could.running m.could.none_open m.could.room; lsn = m.lsn; state = m.state; reads = m.reads; durable = m.durable; pages = m.pages };
          refused = tt;
        }
        said new (Err e) m r = record { made = tt; refused = not_made new e r }

  -- ---- migrations

  module _ (n : ℕ) where
    no_cause_tags : MayGetTags n old.state → old.state.failed ≡ false → old.state.rows ≡ [] → log_full (ledger_of old.state) 1 ≡ false → refuses_tags n old.state ≡ None
    no_cause_tags may runs none room = rw (runs, may, ap has_some none, room) refl

    not_grown : (new : OpenStore P L) (r : Refusal) → NotMigrated p l n old new r → IsRefused (refuses_tags n old.state) new r
    not_grown new why.Failed w = record { cause = inl (rw w.0 refl); state = ap (λ (o : OpenStore P L). o.state) w.1; same = λ _. w.1; memory = λ e. cc }
    not_grown new why.BadTags w = record { cause = inl (rw (w.0, w.1) refl); state = ap (λ (o : OpenStore P L). o.state) w.2; same = λ _. w.2; memory = λ e. cc }
    not_grown new why.NotQuiet w = record { cause = inl (rw (w.1.0, w.0, rows_some old.state.rows w.1.1) refl); state = ap (λ (o : OpenStore P L). o.state) w.1.2; same = λ _. w.1.2; memory = λ e. cc }
    not_grown new why.LogFull w = record { cause = inl (rw (w.1.0, w.0, ap has_some w.1.1, w.1.2) refl); state = ap (λ (o : OpenStore P L). o.state) w.1.3; same = λ _. w.1.3; memory = λ e. cc }
    not_grown new why.NotForced w = record { cause = inr (inl (w.1.3, no_cause_tags w.0 w.1.0 w.1.1 w.1.2, refl)); state = ap (λ (o : OpenStore P L). o.state) w.1.4; same = λ _. w.1.4; memory = λ e. cc }
    not_grown new why.DiskWrite w = record { cause = inr (inr tt); state = w.1.state; same = λ other. absurd (other refl); memory = λ e. cc }
    not_grown new _ w = absurd w.1

    pub record Answered (new : OpenStore P L) (a : Result ℕ Refusal) : Type 0 where
      pub may : IfOk a (λ _. MayGetTags n old.state)
      pub made : IfOk a (HasMigrated p l n old new)
      pub refused : IfErr a (NotMigrated p l n old new)

    pub migrations_alike : (x y : OpenStore P L) (a b : Result ℕ Refusal) → Answered x a → Answered y b → MakeAlike p l old x y a b
    migrations_alike x y a b m k = alike (refuses_tags n old.state) (migrated old.state) x y a b (said x a m) (said y b k) where
      said : (new : OpenStore P L) (a : Result ℕ Refusal) → Answered new a → IsSaid (refuses_tags n old.state) (migrated old.state) new a
      said new (Ok i) m = record {
        made = record { could = m.made.could; none = no_cause_tags m.may m.made.could.running m.made.could.none_open m.made.could.room; lsn = m.made.lsn_is; state = m.made.state; reads = m.made.reads; durable = m.made.durable; pages = m.made.pages };
        refused = tt;
      }
      said new (Err e) m = record { made = tt; refused = not_grown new e m.refused }

    -- this is so of both where both were made
    pub on_both : (x y : OpenStore P L) (a b : Result ℕ Refusal) (Q : Type 0) → Answered x a → Answered y b → ((i j : ℕ) → HasMigrated p l n old x i → HasMigrated p l n old y j → Q) → OnBoth a b Q
    on_both x y (Ok a) (Ok b) Q m k law = law a b m.made k.made
    on_both x y (Ok a) (Err s) Q m k law = tt
    on_both x y (Err r) b Q m k law = tt

    module _ (x y : OpenStore P L) (i j : ℕ) (m : HasMigrated p l n old x i) (k : HasMigrated p l n old y j) where
      pub both_first : (c d : List ℕ) → p.may_be x.pages 0 c → p.may_be y.pages 0 d → ReadAlike c d
      both_first c d e f = same_page (with_tags n old.state.sizes) 0 c d (m.tags.superblock c e) (k.tags.superblock d f)

      pub both_tags : (q : ℕ) → page_count old.state.sizes ≤ q → q < page_count (with_tags n old.state.sizes) → (c d : List ℕ) → p.may_be x.pages q c → p.may_be y.pages q d → ReadAlike c d
      both_tags q low high c d e f = same_page (with_tags n old.state.sizes) q c d (m.tags.added q c low high e) (k.tags.added q d low high f)

      pub both_beyond : (q : ℕ) → page_count (with_tags n old.state.sizes) ≤ q → (c d : List ℕ) → p.may_be x.pages q c → p.may_be y.pages q d → c ≡ d
      both_beyond q past c d e f = m.beyond q past c e ∙ sym (k.beyond q past d f)
