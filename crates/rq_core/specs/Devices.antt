-- The devices of a world, as traits see them.
use Rattle.rq_disk.specs.declared.device.LogDevice as log_device
use Rattle.rq_disk.specs.declared.device.PageDevice as page_device
use Rattle.rq_disk.specs.declared.mem_log.MemLog.{MemLog}
use Rattle.rq_disk.specs.declared.mem_pages.MemPages.{MemPages}
use Rattle.rq_disk.specs.contracts.mem_pages.MemPagesPageDevice.TheImpl as page_impl
use Rattle.rq_disk.specs.contracts.mem_log.MemLogLogDevice.TheImpl as log_impl

abbrev pub mem_pages : page_device.Ghosts MemPages
mem_pages = page_impl.ghosts

abbrev pub mem_log : log_device.Ghosts MemLog
mem_log = log_impl.ghosts
