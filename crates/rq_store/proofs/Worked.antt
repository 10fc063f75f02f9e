-- The worked log in bytes is whole, and comes to this.
use Rattle.std.proofs.Common.{◌≡◌, ℕ, ◌+◌, ◌<◌, ◌≤◌, List, [], ◌||◌, length, drop, Bool, true, false, inl, inr, refl, sym, subst, arith}
use Rattle.std.proofs.lemmas.Bool.{cases_Bool, false≢true, eqb-true, and_parts}
use Rattle.rq_model.specs.declared.record.Record.{Record}
use Rattle.rq_model.specs.declared.txn.Txn.{Txn}
use Rattle.rq_model.specs.Content.{Said, has_end, has_commit, deeds, removed, added}
use Rattle.rq_model.specs.Rules.{holds, uses_send, uses_receive, KeepsRules}
use Rattle.rq_model.specs.Vocabulary.{same_txn}
use Rattle.rq_model.proofs.Lists.{same_is}
use Rattle.rq_page.specs.declared.directory.Directory.{Directory}
use Rattle.rq_page.specs.Directories.{new_directory, IsDirectorySlot}
use Rattle.rq_page.specs.Sizes.{IsLink, cell_count}
use Rattle.rq_page.specs.Slots.{IsCellOf}
use Rattle.rq_page.specs.Slots.Slot.{Free, Used, Sender}
use Rattle.rq_views.specs.Claims.{HasRoom}
use Rattle.rq_views.specs.Groups.{DeedsTellViews}
use Rattle.rq_views.specs.Items.{items, ReadsItsDeeds}
use Rattle.rq_views.specs.Legal.{IsLegalLog}
use Rattle.rq_views.specs.Numbers.{AreNumbered}
use Rattle.rq_views.specs.Plans.{directory_put_back, directory_tail_unlinked}
use Rattle.rq_views.specs.WorkedItems.{sizes, small, t2, cell, sends, takes, sent_a, taken_a, sent_b, committed_one, done_two, stopped, taken_back, restarted}
use Rattle.rq_views.proofs.Worked.{worked}
use Rattle.rq_model.specs.Incarnations.{InOrder}
use Rattle.rq_store.specs.Whole.{IsWhole}
use Rattle.rq_store.specs.Worked.{WorkedStore, spelled_log}
use Rattle.rq_store.proofs.Cutting.{whole_dropped}
use Rattle.rq_store.proofs.Spelling.{MayStandAt, AreSpelt, items_back, in_store, befores}

-- what stands in the slots
cell_fits : (s : ℕ) → s < 30 → IsCellOf sizes (cell s)
cell_fits s h = record {
  numbers =
      record {
        sender = omega (arith, h);
        numbered = omega arith;
        sequence = omega arith;
        tag = omega arith;
        next = omega arith;
        prev = omega arith;
        body = omega arith;
      };
  sender = h;
  next = inl refl;
  prev = inl refl;
}

cell_a : MayStandAt sizes 49 (Used (cell 0))
cell_a = record { low = omega arith; holds = cell_fits 0 (omega arith) }

none_a : MayStandAt sizes 49 Free
none_a = record { low = omega arith; holds = tt }

cell_b : MayStandAt sizes 65 (Used (cell 15))
cell_b = record { low = omega arith; holds = cell_fits 15 (omega arith) }

none_b : MayStandAt sizes 65 Free
none_b = record { low = omega arith; holds = tt }

at_a : IsLink sizes 49
at_a = inr (record { above = omega arith; below = omega arith; slot = omega arith })

at_b : IsLink sizes 65
at_b = inr (record { above = omega arith; below = omega arith; slot = omega arith })

few : (s : ℕ) (d : Directory) → s < 30 → d.sent < 2 → d.received < d.sent + 1 → d.last_tag < 8 → d.head < 100
    → d.tail < 100 → IsDirectorySlot (record { sender = s; directory = d })
few s d a b c e f g = record {
  sender = omega (arith, a);
  sent = omega (arith, b);
  received = omega (arith, c);
  last_tag = omega (arith, e);
  head = omega (arith, f);
  tail = omega (arith, g);
}

group_a : (d : Directory) → d.sent < 2 → d.received < d.sent + 1 → d.last_tag < 8 → d.head < 100 → d.tail < 100
    → IsLink sizes d.head → IsLink sizes d.tail → MayStandAt sizes 17 (Sender 0 d)
group_a d b c e f g h t = record {
  low = omega arith;
  holds = record { numbers = few 0 d (omega arith) b c e f g; own = refl; head = h; tail = t };
}

group_b : (d : Directory) → d.sent < 2 → d.received < d.sent + 1 → d.last_tag < 8 → d.head < 100 → d.tail < 100
    → IsLink sizes d.head → IsLink sizes d.tail → MayStandAt sizes 33 (Sender 15 d)
group_b d b c e f g h t = record {
  low = omega arith;
  holds = record { numbers = few 15 d (omega arith) b c e f g; own = refl; head = h; tail = t };
}

new_a : MayStandAt sizes 17 (Sender 0 new_directory)
new_a =
    group_a new_directory (omega arith) (omega arith) (omega arith) (omega arith) (omega arith) (inl refl) (inl refl)

has_a : MayStandAt sizes 17 (Sender 0 sent_a)
has_a = group_a sent_a (omega arith) (omega arith) (omega arith) (omega arith) (omega arith) at_a at_a

took_a : MayStandAt sizes 17 (Sender 0 taken_a)
took_a = group_a taken_a (omega arith) (omega arith) (omega arith) (omega arith) (omega arith) (inl refl) (inl refl)

back_a : MayStandAt sizes 17 (Sender 0 (directory_put_back taken_a 49))
back_a =
    group_a (directory_put_back taken_a 49) (omega arith) (omega arith) (omega arith) (omega arith) (omega arith) at_a
    at_a

new_b : MayStandAt sizes 33 (Sender 15 new_directory)
new_b =
    group_b new_directory (omega arith) (omega arith) (omega arith) (omega arith) (omega arith) (inl refl) (inl refl)

has_b : MayStandAt sizes 33 (Sender 15 sent_b)
has_b = group_b sent_b (omega arith) (omega arith) (omega arith) (omega arith) (omega arith) at_b at_b

undid_b : MayStandAt sizes 33 (Sender 15 (directory_tail_unlinked sent_b (cell 15) 0))
undid_b =
    group_b (directory_tail_unlinked sent_b (cell 15) 0) (omega arith) (omega arith) (omega arith) (omega arith)
    (omega arith) (inl refl) (inl refl)

one_spelt : AreSpelt sizes committed_one
one_spelt = (tt, ((refl, omega arith), ((new_a, has_a), ((none_a, cell_a), (tt, tt)))))

sent_spelt : AreSpelt sizes (drop 3 done_two)
sent_spelt = ((refl, omega arith), ((new_b, has_b), ((none_b, cell_b), one_spelt)))

two_spelt : AreSpelt sizes done_two
two_spelt =
    ((refl, omega arith), ((has_a, took_a), ((cell_a, none_a), sent_spelt)))

stopped_spelt : AreSpelt sizes stopped
stopped_spelt = ((cell_b, none_b), (tt, ((took_a, back_a), ((none_a, cell_a), two_spelt))))

spelt : AreSpelt sizes restarted
spelt = (tt, (tt, (tt, ((has_b, undid_b), ((cell_b, none_b), (tt, (cell_b, stopped_spelt)))))))

-- what its deeds tell
one_reads : ReadsItsDeeds (spelled_log committed_one)
one_reads = (refl, (((sends 0, refl), refl), (tt, (tt, (tt, tt)))))

two_reads : ReadsItsDeeds (spelled_log done_two)
two_reads = (((takes 0, refl), refl), (tt, (tt, (((sends 15, refl), refl), (tt, (tt, one_reads))))))

reads : ReadsItsDeeds (spelled_log restarted)
reads = (tt, (tt, (tt, (tt, (tt, (tt, (tt, (tt, (tt, (tt, (tt, two_reads)))))))))))

one_tells : DeedsTellViews committed_one
one_tells = (tt, ((refl, refl, refl), (tt, (tt, (tt, tt)))))

two_tells : DeedsTellViews done_two
two_tells = (([], refl, refl), (tt, (tt, ((refl, refl, refl), (tt, (tt, one_tells))))))

tells : DeedsTellViews restarted
tells = (tt, (tt, (tt, (tt, (tt, (tt, (tt, (tt, (tt, (tt, (tt, two_tells)))))))))))

-- a record that ends no transaction
never : {b : Bool} → false ≡ true → b ≡ false
never e = absurd (false≢true e)

-- nobody holds an end once t1 has committed
none_holds : (f : Said → Bool) (u : Txn) → holds f (spelled_log committed_one) u ≡ true → ⊥
none_holds f u h = elim (cases_Bool (same_txn (record { incarnation = 1; count = 1 }) u)) [
  | inl y ↦ false≢true (and_parts _ _ (rw y at h)).1
  | inr n ↦ false≢true (rw n at h)
]

one_rules : KeepsRules (spelled_log committed_one)
one_rules = (
  tt,
  (λ v e. refl),
  (
    (λ s. record {
      not_ended = refl;
      alone_send = λ y u h. absurd (false≢true h);
      alone_receive = λ y. absurd (false≢true y);
      has_more = λ y. absurd (false≢true y);
    }),
    (λ v. never),
    (tt, (λ v. never), (tt, (λ v. never), (tt, (λ v. never), tt))),
  ),
)

-- the log that t2 takes its message over
abbrev before_take : List Record
before_take = drop 1 (spelled_log done_two)

abbrev Left : ℕ → Type 0
Left p =
    removed p (deeds (λ u. has_commit before_take u || same_txn u t2) before_take) < length
    (added p (deeds (has_commit before_take) before_take))

only_t2 : (f : Said → Bool) (u : Txn) → holds f before_take u ≡ true → u ≡ t2
only_t2 f u h = elim (cases_Bool (same_txn t2 u)) [
  | inl y ↦ sym (same_is t2 u y)
  | inr n ↦ absurd (none_holds f u (rw n at h))
]

two_rules : KeepsRules (spelled_log done_two)
two_rules = (
  (λ s. record {
    not_ended = refl;
    alone_send = λ y. absurd (false≢true y);
    alone_receive = λ y u h. only_t2 (uses_receive s) u h;
    has_more = λ y. subst (λ p. Left p) (eqb-true 0 s y) (omega arith);
  }),
  (λ v. never),
  (
    tt,
    (λ v. never),
    (
      tt,
      (λ v. never),
      (
        (λ s. record {
          not_ended = refl;
          alone_send = λ y u h. absurd (none_holds (uses_send s) u h);
          alone_receive = λ y. absurd (false≢true y);
          has_more = λ y. absurd (false≢true y);
        }),
        (λ v. never),
        (tt, (λ v. never), (tt, (λ v. never), one_rules)),
      ),
    ),
  ),
)

stopped_rules : KeepsRules (spelled_log stopped)
stopped_rules = (tt, (λ v. never), (tt, (λ v. never), (tt, (λ v. never), (tt, (λ v. never), two_rules))))

back_rules : KeepsRules (spelled_log taken_back)
back_rules = (
  tt,
  (λ v. never),
  (tt, (λ v. never), (tt, (λ v. never), (tt, (λ v. never), (tt, (λ v. never), stopped_rules)))),
)

rules : KeepsRules (spelled_log restarted)
rules = (
  tt,
  (λ v. never),
  (tt, (λ v e. subst (λ w. has_end (spelled_log taken_back) w ≡ false) (same_is t2 v e) refl), back_rules),
)

running : (1 ≤ 1) × ◌≡◌ {A = ℕ} 1 1
running = (omega arith, refl)

one_order : InOrder (spelled_log committed_one)
one_order = (running, (running, (running, (running, (refl, tt)))))

two_order : InOrder (spelled_log done_two)
two_order = (running, (running, (running, (running, (running, (running, one_order))))))

stopped_order : InOrder (spelled_log stopped)
stopped_order = (running, (running, (running, (running, two_order))))

order : InOrder (spelled_log restarted)
order = (refl, (running, (running, (running, (running, (running, (running, stopped_order)))))))

same : items sizes (spelled_log restarted) ≡ restarted
same = items_back sizes restarted spelt

whole : IsWhole sizes (spelled_log restarted)
whole = record {
  legal = subst (IsLegalLog small) (sym same) worked.restarted_keeps.legal;
  told = subst DeedsTellViews (sym same) tells;
  rules = rules;
  reads = reads;
  in_store = in_store sizes restarted spelt;
  befores = befores sizes restarted spelt;
  order = order;
  based = search;
  behind = search;
  room = subst (HasRoom (cell_count sizes)) (sym same) worked.restarted_keeps.room;
  numbers = subst AreNumbered (sym same) worked.restarted_keeps.numbers;
}

pub worked_store : WorkedStore
worked_store = record {
  stopped_whole = whole_dropped sizes 7 (spelled_log restarted) whole;
  stopped_unfinished = refl;
  stopped_lost = refl;
  restarted_whole = whole;
  restarted_unfinished = refl;
  restarted_lost = refl;
  stopped_content = refl;
  restarted_content = refl;
  restarted_other = refl;
}
