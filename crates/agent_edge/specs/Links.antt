-- The connections of a door, and what each call on the door makes of them.
use Rattle.std.specs.Prelude.{ℕ, Bool, true, false, List, [], ◌∷◌, ◌++◌, drop, if◌then◌else◌}

-- a connection: the bytes of it that weren't read, and the bytes written on it
pub record Link : Type 0 where
  pub unread : List ℕ
  pub written : List ℕ

-- the connections that were shut, in the order in which they were accepted; of the open one, the bytes still to be
-- read and the bytes written, no bytes where none is open; and the bytes of each one that is still to be accepted
pub record Links : Type 0 where
  pub finished : List Link
  pub unread : List ℕ
  pub written : List ℕ
  pub coming : List (List ℕ)

-- after a read of this many bytes
abbrev pub after_read : ℕ → Links → Links
after_read count links = record links { unread = drop count links.unread }

-- after a write of these bytes
abbrev pub after_write : List ℕ → Links → Links
after_write bytes links = record links { written = links.written ++ bytes }

-- after reads of this many bytes in all, and writes of these bytes in all, in whatever order they came
abbrev pub after_talk : ℕ → List ℕ → Links → Links
after_talk count bytes links = record links { unread = drop count links.unread; written = links.written ++ bytes }

-- the open connection
abbrev pub open_link : Links → Link
open_link links = record { unread = links.unread; written = links.written }

-- after the open connection was shut
abbrev pub after_shut : Links → Links
after_shut links = record {
  finished = links.finished ++ open_link links ∷ [];
  unread = [];
  written = [];
  coming = links.coming;
}

-- a list has an item
abbrev pub is_there : {T : Type 0} → List T → Bool
is_there [] = false
is_there (item ∷ items) = true

-- a connection is still to be accepted
abbrev pub has_more : Links → Bool
has_more links = is_there links.coming

-- the first text of a list, where it has one
abbrev pub first_text : List (List ℕ) → List ℕ
first_text [] = []
first_text (text ∷ texts) = text

-- after the next connection was accepted, where none was open
abbrev pub after_open : Links → Links
after_open links = record links { unread = first_text links.coming; written = []; coming = drop 1 links.coming }

-- after the next connection was accepted; one that was open is shut then
abbrev pub after_accept : Bool → Links → Links
after_accept was_open links = after_open (if was_open then after_shut links else links)
