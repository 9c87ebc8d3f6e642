-- How the worked facts write bytes and values down; nothing here rests on a definition.
--     rows            the four bytes of each 32-bit number, the most significant first
--     packet, padded  a packet: its header (P set), sender 1, and these 32-bit words
--     le2, le4        a number's bytes, the least significant first; le2s, le4s of each number in turn
--     job             a record of a job list: body length, kind, body
--     header, report, receipts, clock, echoes     records of kinds 0; 1 and 2; 3; 4; 5. Sender 1, SSRC 7
--     fields          the fields of a block of types 1 to 3
use Rattle.std.specs.Prelude.{ℕ, ◌+◌, ◌/◌, ◌%◌, ◌≡◌, List, [], ◌∷◌, ◌++◌, length}
use Rattle.def_wire.specs.declared.Fields.{Fields}
use Rattle.examples.specs.Vectors.{packet4, header_job, loss_job, echo_job, clock_job}

abbrev pub rows : List ℕ → List ℕ
rows [] = []
rows (x ∷ xs) = x / 16777216 % 256 ∷ x / 65536 % 256 ∷ x / 256 % 256 ∷ x % 256 ∷ rows xs

-- the header's length field is the number of words less one, and two words stand before the blocks
abbrev pub packet : List ℕ → List ℕ
packet ws = rows ((0x80cf0001 + length ws) ∷ 1 ∷ ws)

abbrev pub padded : List ℕ → List ℕ
padded ws = rows ((0xa0cf0001 + length ws) ∷ 1 ∷ ws)

abbrev pub le2 : ℕ → List ℕ
le2 x = x % 256 ∷ x / 256 % 256 ∷ []

abbrev pub le4 : ℕ → List ℕ
le4 x = le2 x ++ le2 (x / 65536)

abbrev pub le2s : List ℕ → List ℕ
le2s [] = []
le2s (x ∷ xs) = le2 x ++ le2s xs

abbrev pub le4s : List ℕ → List ℕ
le4s [] = []
le4s (x ∷ xs) = le4 x ++ le4s xs

abbrev pub job : ℕ → List ℕ → List ℕ
job kind body = le4 (length body) ++ (le2 kind ++ body)

-- with so much padding
abbrev pub header : ℕ → List ℕ
header n = job 0 (le4 1 ++ le2 n)

-- begin, end, thinning, and what follows them
abbrev pub body : ℕ → ℕ → ℕ → List ℕ → List ℕ
body b e t rest = le4 7 ++ (le2 b ++ (le2 e ++ (le2 t ++ rest)))

abbrev pub report : ℕ → ℕ → ℕ → ℕ → List ℕ → List ℕ
report kind b e t ws = job kind (body b e t (le2s ws))

abbrev pub receipts : ℕ → ℕ → ℕ → List ℕ → List ℕ
receipts b e t ts = job 3 (body b e t (le4s ts))

-- the time's low half, then its high half
abbrev pub clock : ℕ → ℕ → List ℕ
clock high low = job 4 (le4s (low ∷ high ∷ []))

abbrev pub echoes : List ℕ → List ℕ
echoes ns = job 5 (le4s ns)

-- SSRC, begin, end, thinning
abbrev pub fields : ℕ → ℕ → ℕ → ℕ → Fields
fields s b e t = record { ssrc = s; begin = b; end = e; thinning = t }

-- what these write, against the twelve examples' bytes
pub record Rows : Type 0 where
  pub big_endian : rows (0x01020304 ∷ 0xfffefdfc ∷ []) ≡ 1 ∷ 2 ∷ 3 ∷ 4 ∷ 255 ∷ 254 ∷ 253 ∷ 252 ∷ []
  pub example-4 : packet (0x01000003 ∷ 7 ∷ 0x000a000e ∷ 0x40024002 ∷ []) ≡ packet4
  pub with-padding : padded (0x01000003 ∷ []) ≡ 0xa0 ∷ 0xcf ∷ 0 ∷ 2 ∷ 0 ∷ 0 ∷ 0 ∷ 1 ∷ 1 ∷ 0 ∷ 0 ∷ 3 ∷ []
  pub little_endian : le4 0x01020304 ≡ 4 ∷ 3 ∷ 2 ∷ 1 ∷ []
  pub header-record : header 0 ≡ header_job
  pub other-records :
      (report 1 10 14 0 (16386 ∷ 16386 ∷ []) ≡ loss_job) × (echoes (10 ∷ 11 ∷ 12 ∷ []) ≡ echo_job)
      × (clock 0x11223344 0x55667788 ≡ clock_job)
  pub receipt-record :
      receipts 5 9 2 (100 ∷ [])
      ≡ 14 ∷ 0 ∷ 0 ∷ 0 ∷ 3 ∷ 0 ∷ 7 ∷ 0 ∷ 0 ∷ 0 ∷ 5 ∷ 0 ∷ 9 ∷ 0 ∷ 2 ∷ 0 ∷ 100 ∷ 0 ∷ 0 ∷ 0 ∷ []
