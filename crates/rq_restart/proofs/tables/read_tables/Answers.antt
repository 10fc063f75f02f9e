use Rattle.std.proofs.Common.{sym, ◌∙◌, ap}
use Rattle.std.proofs.lemmas.Result.{IfErr-weaker, on_ok_weaker}
use Rattle.rq_page.specs.Sizes.{client_count, sender_count}
use Rattle.rq_pool.proofs.Fetched.{reads_then}
use Rattle.rq_restart.specs.Tables.{NotTabled}
use Rattle.rq_restart.proofs.Tabled.{tabled_then}
use Rattle.rq_restart.proofs.tables.read_tables.Goals as goal

pub read_clients-requires-clause-senders : goal.read_clients-requires-clause-senders
read_clients-requires-clause-senders g c = c.requires.senders ∙ ap sender_count (sym (c.read_directory.ensures.read.read.kept 0).sizes)

pub read_clients-requires-clause-clients : goal.read_clients-requires-clause-clients
read_clients-requires-clause-clients g c = c.requires.clients ∙ ap client_count (sym (c.read_directory.ensures.read.read.kept 0).sizes)

pub returns-in-Ok-clause-waiting : goal.returns-in-Ok-clause-waiting
returns-in-Ok-clause-waiting g c = on_ok_weaker c.read_clients.result (λ stays. stays c.read_directory.new.waiting c.in-Ok.ensures.waiting) c.read_clients.ensures.waiting

pub returns-in-Ok-clause-read : goal.returns-in-Ok-clause-read
returns-in-Ok-clause-read g c = reads_then g.P.PageDevice c.read_clients.result c.args.pages.now c.read_directory.new.pages c.read_clients.new.pages c.read_directory.ensures.read.read c.in-Ok.ensures.read.counted c.read_clients.ensures.read

pub returns-in-Ok-clause-causes : goal.returns-in-Ok-clause-causes
returns-in-Ok-clause-causes g c =
    let p = g.P.PageDevice in
    let start = c.args.pages.now in
    let mid = c.read_directory.new.pages in
    let new = c.read_clients.new.pages in
    IfErr-weaker c.read_clients.result (λ e. NotTabled p c.args.records mid e new) (λ e. NotTabled p c.args.records start e new)
    (λ e. tabled_then p c.args.records e start mid new c.read_directory.ensures.read.read c.read_clients.ensures.read.read) c.read_clients.ensures.causes
