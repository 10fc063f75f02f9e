use Rattle.rq_disk.proofs.PageFiles.{page_files_leave}
use Rattle.rq_disk.proofs.laws.page_files_leave.Goals as goal

pub returns : goal.returns
returns c = page_files_leave
