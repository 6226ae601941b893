-- TI-TXT: which texts there are, and which bytes they put at which addresses.
use Rattle.std.specs.Prelude.{◌≡◌, ℕ, ◌+◌, ◌-◌, ◌*◌, ◌<◌, ◌≤◌, ◌==◌, ◌&&◌, ◌||◌, Bool, true, List, All, [], ◌∷◌, ◌++◌, length, take, filter, Option, Some, None, is_some, nat_le, nat_lt, if◌then◌else◌}
use Rattle.std.specs.Option.{option_and_then, option_or}
use Rattle.ti_txt.specs.Image.{Block, IsImage}
use Rattle.ti_txt.specs.Bytes.{byte_in}
use Rattle.ti_txt.specs.declared.fault.TxtFault.{TxtFault}
use Rattle.ti_txt.specs.declared.fault.TxtFault.TheVariants.{BadByte, Overlap, PastEnd, Unmapped, NoEnd, Memory}

-- a blank, a tab, CR or LF
abbrev pub is_white : ℕ → Bool
is_white b = b == 32 || b == 9 || b == 13 || b == 10

-- the value of a hexadecimal digit, in either case
abbrev pub digit_of : ℕ → Option ℕ
digit_of b = if nat_le 48 b && nat_le b 57 then Some (b - 48)
    else (if nat_le 65 b && nat_le b 70 then Some (b - 55)
    else (if nat_le 97 b && nat_le b 102 then Some (b - 87)
    else None))

-- the number that hexadecimal digits spell behind those of n
abbrev pub number_from : ℕ → List ℕ → Option ℕ
number_from n [] = Some n
number_from n (b ∷ rest) = option_and_then (λ d. number_from (16 * n + d) rest) (digit_of b)

-- a byte that a text puts at an address; `at` is the offset of its first digit
pub record Put : Type 0 where
  pub at : ℕ
  pub address : ℕ
  pub value : ℕ

-- The rest of a text, from an offset on, where the next byte goes to this address, if a segment has begun: it puts
-- these bytes. Its words are `@` with one to four digits, two digits, and `q`, which is the last. White space stands
-- behind each but the last, and anywhere between them.
pub data Puts : ℕ → Option ℕ → List ℕ → List Put → Type 0 where
  white : (at : ℕ) (next : Option ℕ) (w : ℕ) (rest : List ℕ) (puts : List Put)
      → is_white w ≡ true → Puts (at + 1) next rest puts → Puts at next (w ∷ rest) puts
  segment : (at : ℕ) (next : Option ℕ) (digits : List ℕ) (address w : ℕ) (rest : List ℕ) (puts : List Put)
      → 1 ≤ length digits → length digits ≤ 4 → number_from 0 digits ≡ Some address → is_white w ≡ true
      → Puts (at + length digits + 2) (Some address) rest puts → Puts at next (64 ∷ digits ++ w ∷ rest) puts
  byte : (at address : ℕ) (high low x y w : ℕ) (rest : List ℕ) (puts : List Put)
      → digit_of high ≡ Some x → digit_of low ≡ Some y → is_white w ≡ true
      → Puts (at + 3) (Some (address + 1)) rest puts
      → Puts at (Some address) (high ∷ low ∷ w ∷ rest) (record { at = at; address = address; value = 16 * x + y } ∷ puts)
  end : (at : ℕ) (next : Option ℕ) (rest : List ℕ) → All (λ w. is_white w ≡ true) rest → Puts at next (113 ∷ rest) []

-- the byte that was put at an address, if one was
abbrev pub given : List Put → ℕ → Option ℕ
given [] address = None
given (p ∷ rest) address = if p.address == address then Some p.value else given rest address

-- the addresses of information FRAM (0x1800 to 0x19FF) and of the memory from 0x4400 to 0xFFFF
abbrev pub is_mapped : ℕ → Bool
is_mapped address = (nat_le 0x1800 address && nat_le address 0x19FF) || (nat_le 0x4400 address && nat_le address 0xFFFF)

-- what is wrong with a byte where these bytes were put before
abbrev pub fault_of : (ℕ → Option ℕ) → Put → Option TxtFault
fault_of before p = if nat_lt 0xFFFF p.address then Some (PastEnd p.at)
    else (if is_mapped p.address then (if is_some (before p.address) then Some (Overlap p.at) else None)
    else Some (Unmapped p.at))

-- the first fault of bytes that are put behind others
abbrev pub first_fault : List Put → List Put → Option TxtFault
first_fault before [] = None
first_fault before (p ∷ rest) = option_or (fault_of (given before) p) (first_fault (before ++ p ∷ []) rest)

-- The text is in the grammar, no byte is at fault, and the image has the bytes that are put and no others.
pub record Holds (text : List ℕ) (blocks : List Block) : Type 0 where
  pub puts : List Put
  pub written : Puts 0 None text puts
  pub good : first_fault [] puts ≡ None
  pub image : IsImage blocks
  pub bytes : (address : ℕ) → byte_in blocks address ≡ given puts address

-- Some text of the grammar begins with these bytes, and both digits of these puts stand in them.
pub record Begins (front : List ℕ) (whole : List Put) : Type 0 where
  pub more : List ℕ
  pub puts : List Put
  pub written : Puts 0 None (front ++ more) puts
  pub are_whole : whole ≡ filter (λ p. nat_le (p.at + 2) (length front)) puts

-- Such bytes, with no put at fault.
pub record BeginsWell (front : List ℕ) : Type 0 where
  pub whole : List Put
  pub begins : Begins front whole
  pub good : first_fault [] whole ≡ None

-- The bytes before the offset begin a text, and with the next they don't.
pub record StopsAt (text : List ℕ) (at : ℕ) : Type 0 where
  pub within : at < length text
  pub before : BeginsWell (take at text)
  pub stops : (whole : List Put) → Begins (take (at + 1) text) whole → ⊥

-- The whole text begins a text, and is none.
pub record EndsEarly (text : List ℕ) (at : ℕ) : Type 0 where
  pub place : at ≡ length text
  pub begins : BeginsWell text
  pub not_whole : (puts : List Put) → Puts 0 None text puts → ⊥

-- Some bytes of the text begin a text in which this is the first fault of a put.
pub record PutsBadly (text : List ℕ) (fault : TxtFault) : Type 0 where
  pub count : ℕ
  pub whole : List Put
  pub begins : Begins (take count text) whole
  pub first : first_fault [] whole ≡ Some fault

-- the first fault of a text
abbrev pub Faulty : List ℕ → TxtFault → Type 0
Faulty text (BadByte at) = StopsAt text at
Faulty text (NoEnd at) = EndsEarly text at
Faulty text (PastEnd at) = PutsBadly text (PastEnd at)
Faulty text (Unmapped at) = PutsBadly text (Unmapped at)
Faulty text (Overlap at) = PutsBadly text (Overlap at)
Faulty text Memory = ⊥
