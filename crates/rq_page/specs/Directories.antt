-- How a sender's part of the directory stands in a slot of 256 bytes.
use Rattle.std.specs.Prelude.{ℕ, ◌<◌, ◌≤◌, ◌^◌, ◌==◌, if◌then◌else◌, List, ◌∷◌, ◌++◌, replicate, slice_index, false}
use Rattle.byteorder.specs.Endian.{big_bytes}
use Rattle.rq_bytes.specs.Number.{number_at}
use Rattle.rq_page.specs.declared.directory.Directory.{Directory}
use Rattle.rq_page.specs.declared.directory.DirectorySlot.{DirectorySlot}

-- the 48 bytes before the zeros: state, sender, what was sent and received, last tag, and the ends of the chain
unfoldable pub directory_front : DirectorySlot → List ℕ
directory_front x =
    (if x.directory.closed then 2 else 1) ∷ 0 ∷ 0 ∷ 0 ∷
    (big_bytes 4 x.sender ++ (big_bytes 8 x.directory.sent ++
    (big_bytes 8 x.directory.received ++ (big_bytes 8 x.directory.last_tag ++
    (big_bytes 8 x.directory.head ++ big_bytes 8 x.directory.tail)))))

-- the one spelling of what a directory slot holds
unfoldable pub directory_bytes : DirectorySlot → List ℕ
directory_bytes x = directory_front x ++ replicate 208 0

-- the numbers that a directory slot may hold
pub record IsDirectorySlot (x : DirectorySlot) : Type 0 where
  pub sender : x.sender < 2 ^ 32
  pub sent : x.directory.sent < 2 ^ 64
  pub received : x.directory.received ≤ x.directory.sent
  pub last_tag : x.directory.last_tag < 2 ^ 64
  pub head : x.directory.head < 2 ^ 64
  pub tail : x.directory.tail < 2 ^ 64

-- what a directory slot with these bytes holds, where it holds anything
unfoldable pub directory_in : List ℕ → DirectorySlot
directory_in bytes = record {
  sender = number_at 4 4 bytes;
  directory = record {
    closed = slice_index bytes 0 == 2;
    sent = number_at 8 8 bytes;
    received = number_at 8 16 bytes;
    last_tag = number_at 8 24 bytes;
    head = number_at 8 32 bytes;
    tail = number_at 8 40 bytes;
  };
}

-- a group to which nothing was sent
abbrev pub new_directory : Directory
new_directory = record { closed = false; sent = 0; received = 0; last_tag = 0; head = 0; tail = 0 }
