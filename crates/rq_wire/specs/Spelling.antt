-- How requests and answers stand in a stream: a frame is the length of what follows in two bytes, a kind, and fields.
use Rattle.std.specs.Prelude.{ℕ, ◌+◌, ◌<◌, ◌≤◌, ◌^◌, List, [], ◌∷◌, ◌++◌, length}
use Rattle.rq_bytes.specs.Number.{AreBytes, number}
use Rattle.rq_model.specs.Numbers.{number_of}
use Rattle.rq_wire.specs.declared.request.Request.{Request}
use Rattle.rq_wire.specs.declared.request.Request.TheVariants.{Begin, Send, Receive, ReceiveFrom, Close, Commit, Abort, LastTag, Mark, ClientTag}
use Rattle.rq_wire.specs.declared.answers.Answer.{Answer}
use Rattle.rq_wire.specs.declared.answers.Answer.TheVariants as answers

-- the frame of a kind with these fields
unfoldable pub frame : ℕ → List ℕ → List ℕ
frame kind fields = number 2 (1 + length fields) ++ (kind ∷ fields)

-- ---- requests

abbrev pub request_kind : Request → ℕ
request_kind Begin = 1
request_kind (Send sender tag body) = 2
request_kind Receive = 3
request_kind (ReceiveFrom sender) = 4
request_kind (Close sender) = 5
request_kind Commit = 6
request_kind Abort = 7
request_kind (LastTag sender) = 8
request_kind (Mark client tag) = 9
request_kind (ClientTag client) = 10

abbrev pub request_fields : Request → List ℕ
request_fields Begin = []
request_fields (Send sender tag body) = number 4 sender ++ (number 8 tag ++ body)
request_fields Receive = []
request_fields (ReceiveFrom sender) = number 4 sender
request_fields (Close sender) = number 4 sender
request_fields Commit = []
request_fields Abort = []
request_fields (LastTag sender) = number 4 sender
request_fields (Mark client tag) = number 4 client ++ number 8 tag
request_fields (ClientTag client) = number 4 client

-- the one frame of a request
unfoldable pub spelled : Request → List ℕ
spelled r = frame (request_kind r) (request_fields r)

-- the frames of requests, one after the other
abbrev pub spelled_all : List Request → List ℕ
spelled_all [] = []
spelled_all (r ∷ rs) = spelled r ++ spelled_all rs

-- what may be asked: the numbers are of their types, and a body has up to 499 bytes
abbrev pub IsRequest : Request → Type 0
IsRequest Begin = Unit {0}
IsRequest (Send sender tag body) = (sender < 256 ^ 4) × (tag < 256 ^ 8) × (length body ≤ 499) × AreBytes body
IsRequest Receive = Unit {0}
IsRequest (ReceiveFrom sender) = sender < 256 ^ 4
IsRequest (Close sender) = sender < 256 ^ 4
IsRequest Commit = Unit {0}
IsRequest Abort = Unit {0}
IsRequest (LastTag sender) = sender < 256 ^ 4
IsRequest (Mark client tag) = (client < 256 ^ 4) × (tag < 256 ^ 8)
IsRequest (ClientTag client) = client < 256 ^ 4

abbrev pub AreRequested : List Request → Type 0
AreRequested [] = Unit {0}
AreRequested (r ∷ rs) = IsRequest r × AreRequested rs

-- ---- answers

abbrev pub answer_kind : Answer → ℕ
answer_kind (answers.Begun txn) = 129
answer_kind answers.Sent = 130
answer_kind (answers.Message message) = 131
answer_kind answers.NoMessage = 132
answer_kind answers.Closed = 133
answer_kind answers.Marked = 137
answer_kind (answers.Committed lsn) = 134
answer_kind answers.Aborted = 135
answer_kind (answers.LastTag sent tag) = 136
answer_kind (answers.ClientTag count tag) = 138
answer_kind (answers.Refused refusal) = 255

abbrev pub answer_fields : Answer → List ℕ
answer_fields (answers.Begun txn) = number 8 txn.incarnation ++ number 8 txn.count
answer_fields answers.Sent = []
answer_fields (answers.Message message) = (number 4 message.sender ++ number 8 message.tag) ++ message.body
answer_fields answers.NoMessage = []
answer_fields answers.Closed = []
answer_fields answers.Marked = []
answer_fields (answers.Committed lsn) = number 8 lsn
answer_fields answers.Aborted = []
answer_fields (answers.LastTag sent tag) = number 8 sent ++ number 8 tag
answer_fields (answers.ClientTag count tag) = number 8 count ++ number 8 tag
answer_fields (answers.Refused refusal) = number_of refusal ∷ []

-- the one frame of an answer
abbrev pub answer_frame : Answer → List ℕ
answer_frame a = frame (answer_kind a) (answer_fields a)
