-- What a connection holds of its input, and how many heads stand ahead in it.
use Rattle.std.specs.Prelude.{◌≡◌, ℕ, suc, ◌<◌, ◌≤◌, Bool, true, not, List, length, take, drop, IsTrue, Option, Some, None}
use Rattle.http_framing.specs.Kinds.{kind_of}
use Rattle.model_h1.specs.Request.{Head, Fault, Reading, head_is, faulty, has_body}
use Rattle.model_h1.specs.RequestHead.{IsReading}
use Rattle.model_state.specs.Ahead.{AreAhead}
use Rattle.h1_decoder.specs.HeadItem.{SaysHead}
use Rattle.h1_decoder.specs.declared.decoder.HeadItem.{HeadItem}
use Rattle.h1_decoder.specs.declared.scan.HeadScan.{HeadScan}
use Rattle.h1_decoder.specs.declared.scan.HeadScan.TheVariants.{Open, Piece}
use Rattle.h1_connection.specs.Ahead.{heads_in}
use Rattle.h1_connection.specs.Incoming.{Incoming, is_coming_in, IsFoundIn, IsHeadIn}
use Rattle.h1_connection.specs.declared.connection.ahead.Count.{Count}

-- The bytes, where the first head stands among them, where one is searched for, and how many heads stand ahead of the one
-- that was handed out last.
pub record Stock : Type 0 where
  pub unread : List ℕ
  pub piece : Option HeadScan
  pub ahead : ℕ

-- what was found is what stands there
abbrev pub IsFoundOf : Stock → Type 0
IsFoundOf s = IsFoundIn s.unread s.piece

-- a whole head is there
abbrev pub IsWholeOf : Stock → Type 0
IsWholeOf s = IsTrue (is_coming_in s.piece)

-- the bytes and what was found, without the number
abbrev pub incoming_of : Stock → Incoming
incoming_of s = record { unread = s.unread; piece = s.piece }

-- the head that was found, where one was, and what it is read as
abbrev pub IsHeadAhead : Stock → Option (List ℕ) → Type 0
IsHeadAhead s head = IsHeadIn (incoming_of s) s.piece head

abbrev pub IsFaultAhead : Stock → Fault → Type 0
IsFaultAhead s fault = (head : List ℕ) × IsHeadAhead s (Some head) × IsReading head (faulty fault)

-- ---- a head that is handed out

-- it is passed, and none is searched for
abbrev pub IsPassedTo : Stock → Option HeadScan → Stock → Type 0
IsPassedTo s (Some (Piece start end)) after = (after.unread ≡ drop end s.unread) × (after.piece ≡ None)
IsPassedTo s (Some Open) after = ⊥
IsPassedTo s None after = ⊥

-- it has no body
abbrev pub is_bare : HeadItem → Bool
is_bare item = not (has_body (kind_of item.body))

-- Where none stood ahead, as many do now as there may be behind it, and else there is one fewer.
pub record CountsOn (s : Stock) (item : HeadItem) (after : Stock) : Type 0 where
  pub fewer : (n : ℕ) → s.ahead ≡ suc n → after.ahead ≡ n
  pub decoded : s.ahead ≡ 0 → (readings : List Reading) × (after.ahead ≡ length readings)
      × ((hold_size : ℕ) → length s.unread ≤ hold_size → AreAhead hold_size 16 (is_bare item) after.unread readings)

pub record HandsOut (s : Stock) (item : HeadItem) (after : Stock) : Type 0 where
  pub head : List ℕ
  pub is_head : IsHeadAhead s (Some head)
  pub h : Head
  pub reads : IsReading head (head_is h)
  pub says : SaysHead item h
  pub passed : IsPassedTo s s.piece after
  pub counts : CountsOn s item after
  pub behind : 0 < after.ahead → is_bare item ≡ true

-- ---- the fields

abbrev pub stock_of : Count → Incoming → Stock
stock_of count i = record { unread = i.unread; piece = i.piece; ahead = heads_in count.left (take count.mark i.unread) }

-- The bytes in front that were there when the count began are there still, and at most 16 heads are counted among them.
pub record IsStocked (count : Count) (i : Incoming) : Type 0 where
  pub within : count.mark ≤ length i.unread
  pub few : count.left ≤ 16
