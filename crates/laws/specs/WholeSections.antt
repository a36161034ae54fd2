-- What the packets of a PID of the sections kind carry, said of whole sections and not byte by byte.
use Rattle.std.specs.Prelude.{◌≡◌, ℕ, ◌+◌, ◌<◌, ◌≤◌, true, false, cond, ◌⊎◌, ◌↔◌, List, [], ◌∷◌, ◌++◌, length, replicate, None}
use Rattle.model.specs.declared.entry.Entry.{Entry}
use Rattle.model.specs.Packet.{Bytes, byte, bit, pid, payload_unit_start, payload}
use Rattle.model.specs.Crc.{crc32}
use Rattle.model.specs.Runs.{Packets, Placed, run, observed}
use Rattle.model.specs.Watches.{found}
use Rattle.model.specs.Sections.{section_length, carries, sections_finding}

-- a whole section: its table_id, section_syntax_indicator, section_length and CRC_32 are right, and it is that long
pub record Section (s : Bytes) : Type 0 where
  pub table_id : byte s 0 ≤ 254
  pub syntax : bit 7 (byte s 1) ≡ true
  pub least : 9 ≤ section_length s
  pub most : section_length s ≤ 1021
  pub long : length s ≡ 3 + section_length s
  pub crc : crc32 s ≡ 0

-- a section that has begun and not ended: what is there of its fields is right
pub record Begun (s : Bytes) : Type 0 where
  pub some : 1 ≤ length s
  pub table_id : byte s 0 ≤ 254
  pub syntax : 2 ≤ length s → bit 7 (byte s 1) ≡ true
  pub least : 3 ≤ length s → 9 ≤ section_length s
  pub most : 3 ≤ length s → section_length s ≤ 1021
  pub short : 3 ≤ length s → length s < 3 + section_length s

pub data AllSections : List Bytes → Type 0 where
  none : AllSections []
  also : (s : Bytes) (ss : List Bytes) → Section s → AllSections ss → AllSections (s ∷ ss)

abbrev pub end_to_end : List Bytes → Bytes
end_to_end [] = []
end_to_end (s ∷ ss) = s ++ end_to_end ss

-- only bytes of 255
abbrev pub Stuffing : Bytes → Type 0
Stuffing fill = fill ≡ replicate (length fill) 255

-- what may end a payload: a begun section b, and no stuffing; or none, and only stuffing
abbrev pub Tail : Bytes → Bytes → Type 0
Tail b fill = (Begun b × (fill ≡ [])) ⊎ ((b ≡ []) × Stuffing fill)

-- bytes from a section's first byte to the end of a payload: whole sections ss laid end to end, then at most a begun one, b
pub record Laid (body fill : Bytes) (ss : List Bytes) (b : Bytes) : Type 0 where
  pub some : 1 ≤ length body
  pub is : body ≡ end_to_end ss ++ b
  pub whole : AllSections ss
  pub tail : Tail b fill

-- the bytes before the pointer's place end the open section v, if there is one, and are none if there is not
pub data Closing (v lead : Bytes) : List Bytes → Type 0 where
  ends_open : Begun v → Section (v ++ lead) → Closing v lead ((v ++ lead) ∷ [])
  none_open : v ≡ [] → lead ≡ [] → Closing v lead []

-- a payload without the start flag: all of it goes on with the open section v; or its first bytes end that, and the rest is stuffing
pub data Onward (v body fill : Bytes) : List Bytes → Bytes → Type 0 where
  goes_on : Begun v → Begun (v ++ body) → fill ≡ [] → Onward v body fill [] (v ++ body)
  ends_there : Begun v → Section (v ++ body) → Stuffing fill → Onward v body fill ((v ++ body) ∷ []) []

-- no packet has the start flag
pub data Unstarted : List Bytes → Type 0 where
  nothing_yet : Unstarted []
  no_start : (ps : List Bytes) (p : Bytes) → Unstarted ps → payload_unit_start p ≡ false → Unstarted (ps ++ p ∷ [])

-- the packets ps spell text, which is the whole sections ss and then the begun section b, if any: text is the bytes of their payloads,
-- from where the first pointer leads on, without pointers and stuffing
pub data Spelt : List Bytes → Bytes → List Bytes → Bytes → Type 0 where
  -- the first start flag: the bytes before the pointer's place are skipped
  first : (ps : List Bytes) (p skipped body fill : Bytes) (ss : List Bytes) (b : Bytes) →
      Unstarted ps → payload_unit_start p ≡ true → payload p ≡ length skipped ∷ (skipped ++ (body ++ fill)) → Laid body fill ss b →
      Spelt (ps ++ p ∷ []) body ss b
  -- a later one: they end the open section v
  start : (ps : List Bytes) (p text lead body fill : Bytes) (ss done new : List Bytes) (v b : Bytes) →
      Spelt ps text ss v → payload_unit_start p ≡ true → payload p ≡ length lead ∷ (lead ++ (body ++ fill)) → Closing v lead done → Laid body fill new b →
      Spelt (ps ++ p ∷ []) (text ++ (lead ++ body)) (ss ++ (done ++ new)) b
  -- no start flag
  onward : (ps : List Bytes) (p text body fill : Bytes) (ss done : List Bytes) (v b : Bytes) →
      Spelt ps text ss v → payload_unit_start p ≡ false → payload p ≡ body ++ fill → Onward v body fill done b →
      Spelt (ps ++ p ∷ []) (text ++ body) (ss ++ done) b

-- the text of ps and then the bytes lead are whole sections laid end to end
pub record Ended (ps : List Bytes) (lead : Bytes) : Type 0 where
  pub text : Bytes
  pub sections : List Bytes
  pub begun : Bytes
  pub spelt : Spelt ps text sections begun
  pub ends : List Bytes
  pub whole : AllSections ends
  pub laid : text ++ lead ≡ end_to_end ends

-- the pointer of p, after the packets ps, leads to the first byte of a section; what came before that byte are whole sections,
-- unless it is the PID's first start
pub record Pointed (ps : List Bytes) (p : Bytes) : Type 0 where
  pub lead : Bytes
  pub new : Bytes
  pub rest : Bytes
  pub is : payload p ≡ length lead ∷ (lead ++ (new ++ rest))
  pub starts : Section new ⊎ (Begun new × (rest ≡ []))
  pub past : Unstarted ps ⊎ Ended ps lead

-- the text of the packets ps: whole sections laid end to end, then at most one begun section; each start flag's pointer leads to one
pub record Text (ps : List Bytes) : Type 0 where
  pub text : Bytes
  pub sections : List Bytes
  pub begun : Bytes
  pub spelt : Spelt ps text sections begun
  pub laid : text ≡ end_to_end sections ++ begun
  pub whole : AllSections sections
  pub rest : (begun ≡ []) ⊎ Begun begun
  pub pointers : (earlier later : List Bytes) (p : Bytes) → ps ≡ earlier ++ p ∷ later → payload_unit_start p ≡ true → Pointed earlier p

-- the packets among xs that carry section bytes of PID q
abbrev pub carried : List Entry → ℕ → List Placed → List Bytes
carried es q [] = []
carried es q (x ∷ xs) = cond (carries es q x) (x.bytes ∷ carried es q xs) (carried es q xs)

-- nothing is found on PID q before place n of the endless run exactly where its packets there have no start flag, or spell such a text
abbrev pub SectionsWhole : Type 0
SectionsWhole = (es : List Entry) (T : ℕ) (ps : Packets) (q n : ℕ) →
    ((k : ℕ) → k < n → pid (run es T ps k) ≡ q → found es T (sections_finding es) ps k ≡ None)
    ↔ (Unstarted (carried es q (observed es T ps n)) ⊎ Text (carried es q (observed es T ps n)))
