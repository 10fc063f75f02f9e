-- The number and the name of each refusal.
use Rattle.std.specs.Prelude.{ℕ, List, codes}
use Rattle.rq_model.specs.declared.refusal.Refusal.{Refusal}
use Rattle.rq_model.specs.declared.refusal.Refusal.TheVariants.{NoMemory, Failed, DiskRead, UnknownTransaction, NotOpen, Unfinished, UnknownSender, TooLong, SenderBusy, Closed, ReceiverBusy, Full, Latched, PoolFull, DiskWrite, Damaged, TooManyTransactions, NotForced, LogFull, UnknownOperation, NotQuiet, UnknownClient, ClientBusy, BadTags}

abbrev pub number_of : Refusal → ℕ
number_of NoMemory = 1
number_of Failed = 2
number_of DiskRead = 3
number_of UnknownTransaction = 4
number_of NotOpen = 5
number_of Unfinished = 6
number_of UnknownSender = 7
number_of TooLong = 8
number_of SenderBusy = 9
number_of Closed = 10
number_of ReceiverBusy = 11
number_of Full = 12
number_of Latched = 13
number_of PoolFull = 14
number_of DiskWrite = 15
number_of (Damaged d) = 16
number_of TooManyTransactions = 17
number_of NotForced = 18
number_of LogFull = 19
number_of UnknownOperation = 20
number_of NotQuiet = 21
number_of UnknownClient = 22
number_of ClientBusy = 23
number_of BadTags = 24

abbrev pub name_of : Refusal → List ℕ
name_of NoMemory = codes "NoMemory"
name_of Failed = codes "Failed"
name_of DiskRead = codes "DiskRead"
name_of UnknownTransaction = codes "UnknownTransaction"
name_of NotOpen = codes "NotOpen"
name_of Unfinished = codes "Unfinished"
name_of UnknownSender = codes "UnknownSender"
name_of TooLong = codes "TooLong"
name_of SenderBusy = codes "SenderBusy"
name_of Closed = codes "Closed"
name_of ReceiverBusy = codes "ReceiverBusy"
name_of Full = codes "Full"
name_of Latched = codes "Latched"
name_of PoolFull = codes "PoolFull"
name_of DiskWrite = codes "DiskWrite"
name_of (Damaged d) = codes "Damaged"
name_of TooManyTransactions = codes "TooManyTransactions"
name_of NotForced = codes "NotForced"
name_of LogFull = codes "LogFull"
name_of UnknownOperation = codes "UnknownOperation"
name_of NotQuiet = codes "NotQuiet"
name_of UnknownClient = codes "UnknownClient"
name_of ClientBusy = codes "ClientBusy"
name_of BadTags = codes "BadTags"
