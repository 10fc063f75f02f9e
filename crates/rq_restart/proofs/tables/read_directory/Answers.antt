use Rattle.std.proofs.Common.{◌≡◌, ◌+◌, ◌/◌, ◌<◌, ap, refl, sym, ◌∙◌, subst, arith, Err, Ok}
use Rattle.rq_page.specs.Sizes.{Sizes, directory_at, page_count, sender_count}
use Rattle.rq_page.specs.Slots.Slot.{Sender}
use Rattle.rq_page.proofs.Addresses.{senders_have_slots}
use Rattle.rq_views.specs.Stored.{slots_in}
use Rattle.rq_pool.specs.Fetching.{Fetches, HasReadFor}
use Rattle.rq_model.specs.declared.refusal.Refusal.{Refusal}
use Rattle.rq_model.specs.declared.refusal.Refusal.TheVariants as why
use Rattle.rq_model.specs.declared.refusal.Damage.TheVariants.{Page}
use Rattle.rq_pool.proofs.Fetched.{read_then, reads_then, still_read, unfetched_reads}
use Rattle.rq_restart.proofs.Counting.{few_more, one_more_sent, one_more_waiting, sender_place, sender_within}
use Rattle.rq_restart.specs.Tables.{AreSentTo, AreWaitingTo, NotTabled}
use Rattle.rq_restart.proofs.Tabled.{beyond_tabled, next_at_hand, of_senders, page_of, sent_stays, tabled_then, told_stays, unfetched_tabled, waiting_stays}
use Rattle.rq_store.specs.Opening.{messages_told, sent_told, tag_told}
use Rattle.rq_restart.proofs.tables.read_directory.Goals as goal

pub loop-sender-init : goal.loop-sender-init
loop-sender-init g c = record {
  read = still_read g.P.PageDevice c.args.pages.now;
  counted = refl;
  hand = λ m is same. absurd (omega (arith, is));
  waiting = c.requires.waiting;
  sent = c.requires.sent;
  few = λ place. (let none = c.requires.sent.numbers.rest place (omega arith) in omega (arith, none));
}

pub read_group-requires : goal.read_group-requires
read_group-requires g c =
    let number = c.requires.senders in
    let test = c.loop-sender-test.true in
    let below : c.loop-sender.sender < sender_count c.args.pages.now.sizes = omega (arith, number, test) in
    subst (λ (z : Sizes). c.loop-sender.sender < sender_count z) (sym (c.loop-sender.invariant.read.kept 0).sizes) below

pub loop-sender-preserved : goal.loop-sender-preserved
loop-sender-preserved g c =
    let p = g.P.PageDevice in
    let z = c.args.pages.now.sizes in
    let so_far = c.loop-sender.invariant in
    let n = c.loop-sender.sender in
    let old = c.loop-sender.pages in
    let new = c.read_group.new.self in
    let group = c.in-Ok.group in
    let made = c.in-Ok.ensures in
    let sizes : new.sizes ≡ z = (made.fetched.read.kept 0).sizes ∙ (so_far.read.kept 0).sizes in
    let number = c.requires.senders in
    let test = c.loop-sender-test.true in
    let below : n < sender_count z = omega (arith, number, test) in
    let place = sym (sender_place z n below) in
    let held : slots_in z new.images (directory_at n) ≡ Sender n group = subst (λ (y : Sizes). slots_in y new.images (directory_at n) ≡ Sender n group) sizes made.held in
    let fetched : Fetches p (page_of z n) old (Ok group) new = subst (λ a. Fetches p (a / 16) old (Ok group) new) place made.fetched in
    let same = told_stays z p n (Ok group) old new fetched so_far.hand in
    record {
      read = read_then p c.args.pages.now old new so_far.read made.fetched.read;
      counted = made.fetched.counted ∙ so_far.counted;
      hand = next_at_hand z new n (n + 1) refl fetched.hand;
      waiting = rw (c.add.ensures) (one_more_waiting z new.images n _ c.loop-sender.waiting below (c.saturating_sub.ensures ∙ sym (ap messages_told held))
          (waiting_stays z old.images new.images n c.loop-sender.waiting (of_senders z old.images new.images n (omega (arith, below)) same) so_far.waiting));
      sent = rw (c.set.ensures)
          (one_more_sent z new.images n _ _ c.loop-sender.sent (omega (arith, below)) (sym (ap sent_told held) ∙ ap (λ a. sent_told (slots_in z new.images a)) place) (sym (ap tag_told held) ∙ ap (λ a. tag_told (slots_in z new.images a)) place)
          (sent_stays z old.images new.images n c.loop-sender.sent same so_far.sent));
      few = rw (c.set.ensures) (few_more c.args.records n group.sent group.last_tag c.loop-sender.sent (let all = so_far.sent.counts in omega (arith, all, below)) c.if-group-records.false so_far.few);
    }

-- it tells of more than the records
pub beyond-requires : goal.beyond-requires
beyond-requires g c =
    let z = c.args.pages.now.sizes in
    let number = c.requires.senders in
    let test = c.loop-sender-test.true in
    let is = c.directory_of.ensures in
    omega (arith, is, number, test)

pub directory_of-requires : goal.directory_of-requires
directory_of-requires g c =
    let z = c.args.pages.now.sizes in
    let number = c.requires.senders in
    let test = c.loop-sender-test.true in
    let below : c.loop-sender.sender < sender_count z = omega (arith, number, test) in
    subst (λ (y : Sizes). c.loop-sender.sender < sender_count y) (sym (c.layout.ensures.sizes ∙ (c.in-Ok.ensures.fetched.read.kept 0).sizes ∙ (c.loop-sender.invariant.read.kept 0).sizes)) below

pub returns-then-group-records-clause-read : goal.returns-then-group-records-clause-read
returns-then-group-records-clause-read g c =
    let p = g.P.PageDevice in
    let so_far = c.loop-sender.invariant in
    let made = c.in-Ok.ensures.fetched in
    let start = c.args.pages.now in
    let new = c.read_group.new.self in
    subst (λ (e : Refusal). HasReadFor p start (Err e) new) (sym c.beyond.ensures) (record {
      read = read_then p start c.loop-sender.pages new so_far.read made.read;
      counted = tt;
      refused = made.counted ∙ so_far.counted;
    })

pub returns-then-group-records-clause-causes : goal.returns-then-group-records-clause-causes
returns-then-group-records-clause-causes g c =
    let p = g.P.PageDevice in
    let start = c.args.pages.now in
    let z = start.sizes in
    let so_far = c.loop-sender.invariant in
    let n = c.loop-sender.sender in
    let old = c.loop-sender.pages in
    let new = c.read_group.new.self in
    let group = c.in-Ok.group in
    let made = c.in-Ok.ensures in
    let sizes : new.sizes ≡ z = (made.fetched.read.kept 0).sizes ∙ (so_far.read.kept 0).sizes in
    let number = c.requires.senders in
    let test = c.loop-sender-test.true in
    let below : n < sender_count z = omega (arith, number, test) in
    let there = senders_have_slots z n below in
    let on = there.1 in
    let held : slots_in z new.images (directory_at n) ≡ Sender n group = subst (λ (y : Sizes). slots_in y new.images (directory_at n) ≡ Sender n group) sizes made.held in
    let more = c.if-group-records.true in
    let at : c.beyond.result ≡ why.Damaged (Page (directory_at n / 16)) = c.beyond.ensures ∙ ap (λ a. why.Damaged (Page (a / 16))) c.directory_of.ensures in
    subst (λ (e : Refusal). NotTabled p c.args.records start e new) (sym at)
    (beyond_tabled p c.args.records (directory_at n / 16) start new there.0 (omega (arith, on)) (read_then p start old new so_far.read made.fetched.read)
    (λ counted. (let within = sender_within z new.images c.args.records n below counted in let is = ap sent_told held in omega (arith, within, is, more))))

pub returns-in-Err-clause-read : goal.returns-in-Err-clause-read
returns-in-Err-clause-read g c =
    let p = g.P.PageDevice in
    let so_far = c.loop-sender.invariant in
    let n = c.loop-sender.sender in
    let number = c.requires.senders in
    let test = c.loop-sender-test.true in
    let there = senders_have_slots c.args.pages.now.sizes n (omega (arith, number, test)) in
    let on = there.1 in
    let high : directory_at n / 16 < page_count c.loop-sender.pages.sizes = subst (λ (z : Sizes). directory_at n / 16 < page_count z) (sym (so_far.read.kept 0).sizes) (omega (arith, on)) in
    reads_then p (Err c.in-Err.refusal) c.args.pages.now c.loop-sender.pages c.read_group.new.self so_far.read so_far.counted
    (unfetched_reads p (directory_at n / 16) c.loop-sender.pages c.read_group.new.self c.in-Err.refusal there.0 high c.in-Err.ensures.fetched)

pub returns-in-Err-clause-causes : goal.returns-in-Err-clause-causes
returns-in-Err-clause-causes g c =
    let p = g.P.PageDevice in
    let so_far = c.loop-sender.invariant in
    let n = c.loop-sender.sender in
    let number = c.requires.senders in
    let test = c.loop-sender-test.true in
    let there = senders_have_slots c.args.pages.now.sizes n (omega (arith, number, test)) in
    let on = there.1 in
    let high : directory_at n / 16 < page_count c.loop-sender.pages.sizes = subst (λ (z : Sizes). directory_at n / 16 < page_count z) (sym (so_far.read.kept 0).sizes) (omega (arith, on)) in
    tabled_then p c.args.records c.in-Err.refusal c.args.pages.now c.loop-sender.pages c.read_group.new.self so_far.read c.in-Err.ensures.fetched.read
    (unfetched_tabled p c.args.records (directory_at n / 16) c.in-Err.refusal c.loop-sender.pages c.read_group.new.self there.0 high c.in-Err.ensures.fetched)

pub returns-clause-read : goal.returns-clause-read
returns-clause-read g c = record { read = c.loop-sender.invariant.read; counted = c.loop-sender.invariant.counted; refused = tt }

pub returns-clause-waiting : goal.returns-clause-waiting
returns-clause-waiting g c =
    let high = c.loop-sender.auto.sender-end in
    let low = c.loop-sender-test.false in
    let all : c.loop-sender.sender ≡ c.args.senders = omega (arith, high, low) in
    subst (λ (z : Sizes). AreWaitingTo z c.loop-sender.pages.images c.args.senders c.loop-sender.waiting) (sym (c.loop-sender.invariant.read.kept 0).sizes)
    (subst (λ n. AreWaitingTo c.args.pages.now.sizes c.loop-sender.pages.images n c.loop-sender.waiting) all c.loop-sender.invariant.waiting)

pub returns-clause-sent : goal.returns-clause-sent
returns-clause-sent g c =
    let high = c.loop-sender.auto.sender-end in
    let low = c.loop-sender-test.false in
    let all : c.loop-sender.sender ≡ c.args.senders = omega (arith, high, low) in
    subst (λ (z : Sizes). AreSentTo z c.loop-sender.pages.images c.args.senders c.loop-sender.sent) (sym (c.loop-sender.invariant.read.kept 0).sizes)
    (subst (λ n. AreSentTo c.args.pages.now.sizes c.loop-sender.pages.images n c.loop-sender.sent) all c.loop-sender.invariant.sent)
