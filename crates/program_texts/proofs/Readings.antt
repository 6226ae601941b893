-- A text has one reading.
use Rattle.std.proofs.Common.{◌≡◌, ◌≢◌, ◌≤◌, ℕ, List, refl, sym, ap, subst, ◌∙◌, arith}
use Rattle.base_io.specs.declared.place.Place.{Place}
use Rattle.c_lex.specs.Cut.{Cut, Faulty}
use Rattle.c_lex.specs.declared.token.Token.{Token}
use Rattle.c_lex.specs.declared.token.LexFault.{LexFault}
use Rattle.c_lex.specs.declared.token.LexFault.TheVariants as lex
use Rattle.c_lex.proofs.Passing.{same_cut, same_fault, cut_or_fault}
use Rattle.c_parse.specs.Faults.{IsCause, IsTreeOf}
use Rattle.c_parse.specs.Words.{Word, words_of}
use Rattle.c_parse.specs.declared.fault.ParseFault.{ParseFault}
use Rattle.c_parse.specs.declared.fault.ParseFault.TheVariants as syntax
use Rattle.c_parse.specs.declared.raw.Raw.{Raw}
use Rattle.c_parse.proofs.Reading.{treeless}
use Rattle.c_parse.proofs.Whole.{same_tree}
use Rattle.c_tree.specs.declared.tree.Program.{Program}
use Rattle.c_typing.specs.Programs.{Accepts, Refuses, found}
use Rattle.c_typing.specs.declared.type_fault.TypeFault.{TypeFault}
use Rattle.c_typing.specs.declared.type_fault.TypeFault.TheVariants as type
use Rattle.lowered_graphs.specs.GraphOf.{operations, graph_of}
use Rattle.c_lower.specs.Lowering.{IsRefused, place_in}
use Rattle.c_lower.specs.declared.programs.LowerFault.{LowerFault}
use Rattle.c_lower.specs.declared.programs.LowerFault.TheVariants as size
use Rattle.program_texts.specs.declared.fault.ProgramRefusal.{ProgramRefusal}
use Rattle.program_texts.specs.declared.fault.ProgramRefusal.TheVariants as refusal
use Rattle.program_texts.specs.declared.fault.ProgramFault.{ProgramFault}
use Rattle.program_texts.specs.declared.fault.ProgramFault.TheVariants.{Refused, Memory}
use Rattle.program_texts.specs.Front.{Spells, IsTextOf, IsTypedText, HasFault, IsFault, of_text, of_words, of_raw, of_graph, of_size, of_tokens, of_tree, of_types}
use Rattle.program_texts.specs.Laws.{HasOneReading}
use Rattle.program_texts.proofs.Syntax.{one_cause}
use Rattle.program_texts.proofs.Types.{one_program, one_type_fault, typed_or_faulty}

one_raw : (words : List Word) (first second : Raw) → IsTreeOf words first → IsTreeOf words second → first ≡ second
one_raw words first second a b =
    same_tree words first second (record { text = a.text; are = a.are; derives = a.derives }) (record { text = b.text; are = b.are; derives = b.derives })

-- no want of memory
told_tree : (fault : ProgramFault) (f : ParseFault) → fault ≢ Memory → fault ≡ of_tree f → f ≢ syntax.Memory
told_tree fault f n e is = n (e ∙ ap of_tree is)

module _ (text : List ℕ) where
  same_raw : (first second : Raw) → Spells text first → Spells text second → first ≡ second
  same_raw first second a b =
      let P : List Token → Type 0 = λ tokens. IsTreeOf (words_of text tokens) first in
      one_raw (words_of text b.tokens) first second (subst P (same_cut text a.tokens b.tokens a.cut b.cut) a.tree) b.tree

  -- tokens that have a fault spell no tree
  not_spelled : (tokens : List Token) (f : ParseFault) (raw : Raw) → f ≢ syntax.Memory → Cut text tokens → IsCause text tokens f → Spells text raw → ⊥
  not_spelled tokens f raw n cut cause s =
      let P : List Token → Type 0 = λ x. IsCause text x f in
      treeless text s.tokens f (subst P (same_cut text tokens s.tokens cut s.cut) cause) n raw s.tree

  one : (p q : Program) → IsTextOf text p → IsTextOf text q → p ≡ q
  one p q a b =
      let P : Raw → Type 0 = λ raw. Accepts raw p in
      one_program (found b.raw) p q (subst P (same_raw a.raw b.raw a.spells b.spells) a.typed) b.typed

  syntax_same : (s t : List Token) (f g : ParseFault) → f ≢ syntax.Memory → g ≢ syntax.Memory → Cut text s → Cut text t → IsCause text s f → IsCause text t g → f ≡ g
  syntax_same s t f g n m cut also a b =
      let P : List Token → Type 0 = λ x. IsCause text x f in
      one_cause text t f g n m (subst P (same_cut text s t cut also) a) b

  types_same : (r s : Raw) (f g : TypeFault) → Spells text r → Spells text s → Refuses r f → Refuses s g → f ≡ g
  types_same r s f g a b h k =
      let P : Raw → Type 0 = λ raw. Refuses raw f in
      one_type_fault (found s) f g (subst P (same_raw r s a b) h) k

  same_program : (r s : Raw) (p q : Program) → Spells text r → Spells text s → Accepts r p → Accepts s q → p ≡ q
  same_program r s p q a b h k =
      let P : Raw → Type 0 = λ raw. Accepts raw p in
      one_program (found s) p q (subst P (same_raw r s a b) h) k

  -- a tree with a type fault has no program
  not_accepted : (r s : Raw) (f : TypeFault) (p : Program) → Spells text r → Spells text s → Refuses r f → Accepts s p → ⊥
  not_accepted r s f p a b h k =
      let P : Raw → Type 0 = λ raw. Refuses raw f in
      typed_or_faulty (found s) p f k (subst P (same_raw r s a b) h)

  one_fault : (f g : ProgramFault) → f ≢ Memory → g ≢ Memory → HasFault text f → HasFault text g → f ≡ g
  one_fault f g n m (of_text a h e) (of_text b k d) = e ∙ ap of_tokens (same_fault text a b h k) ∙ sym d
  one_fault f g n m (of_text a h e) (of_words tokens b cut cause d) = absurd (cut_or_fault text tokens a cut h)
  one_fault f g n m (of_text a h e) (of_raw raw b s k d) = absurd (cut_or_fault text s.tokens a s.cut h)
  one_fault f g n m (of_words tokens a cut cause e) (of_text b k d) = absurd (cut_or_fault text tokens b cut k)
  one_fault f g n m (of_raw raw a s h e) (of_text b k d) = absurd (cut_or_fault text s.tokens b s.cut k)
  one_fault f g n m (of_words s a cut cause e) (of_words t b also because d) =
      e ∙ ap of_tree (syntax_same s t a b (told_tree f a n e) (told_tree g b m d) cut also cause because) ∙ sym d
  one_fault f g n m (of_words tokens a cut cause e) (of_raw raw b s k d) = absurd (not_spelled tokens a raw (told_tree f a n e) cut cause s)
  one_fault f g n m (of_raw raw a s h e) (of_words tokens b cut cause d) = absurd (not_spelled tokens b raw (told_tree g b m d) cut cause s)
  one_fault f g n m (of_raw r a s h e) (of_raw q b t k d) = e ∙ ap of_types (types_same r q a b s t h k) ∙ sym d
  one_fault f g n m (of_text a h e) (of_graph raw p c at s t big d) = absurd (cut_or_fault text s.tokens a s.cut h)
  one_fault f g n m (of_graph raw p c at s t big e) (of_text b k d) = absurd (cut_or_fault text s.tokens b s.cut k)
  one_fault f g n m (of_words tokens a cut cause e) (of_graph raw p c at s t big d) = absurd (not_spelled tokens a raw (told_tree f a n e) cut cause s)
  one_fault f g n m (of_graph raw p c at s t big e) (of_words tokens b cut cause d) = absurd (not_spelled tokens b raw (told_tree g b m d) cut cause s)
  one_fault f g n m (of_raw r a s h e) (of_graph raw p c at also t big d) = absurd (not_accepted r raw a p s also h t)
  one_fault f g n m (of_graph raw p c at also t big e) (of_raw r a s h d) = absurd (not_accepted r raw a p s also h t)
  one_fault f g n m (of_graph r p c x s h big e) (of_graph q o b y t k large d) =
      let same : p ≡ o = same_program r q p o s t h k in
      e ∙ ap (Refused refusal.TooManyOps) (big.place_of ∙ (ap (λ z. place_in (graph_of z) 4096) same ∙ sym large.place_of)) ∙ sym d

  not_both : (p : Program) (f : ProgramFault) → f ≢ Memory → IsTextOf text p → HasFault text f → ⊥
  not_both p f n t (of_text a h e) = cut_or_fault text t.spells.tokens a t.spells.cut h
  not_both p f n t (of_words tokens a cut cause e) = not_spelled tokens a t.raw (told_tree f a n e) cut cause t.spells
  not_both p f n t (of_raw raw a s h e) =
      let P : Raw → Type 0 = λ x. Refuses x a in
      typed_or_faulty (found t.raw) p a t.typed (subst P (same_raw raw t.raw s t.spells) h)
  not_both p f n t (of_graph raw q c at s h big e) =
      let same : operations q ≡ operations p = ap operations (same_program raw t.raw q p s t.spells h t.typed) in
      let few = t.few in
      let above = big.many in
      omega (arith, same, few, above)

  pub one_reading : HasOneReading text
  one_reading = record { program = one; fault = one_fault; either = not_both }

-- ---- What a step that failed answers

is_fault : (text : List ℕ) (fault : ProgramFault) → (fault ≢ Memory → HasFault text fault) → IsFault text fault
is_fault text (Refused f place) h = h (λ e. told f place e)
  where
    told : (f : ProgramRefusal) (place : Place) → Refused f place ≡ Memory → ⊥
    told f place e = cc
is_fault text Memory h = tt

pub lexical : (text : List ℕ) (f : LexFault) (fault : ProgramFault) → fault ≡ of_tokens f → (f ≢ lex.Memory → Faulty text f) → IsFault text fault
lexical text f fault e h = is_fault text fault (λ n. of_text f (h (λ is. n (e ∙ ap of_tokens is))) e)

pub syntactic : (text : List ℕ) (tokens : List Token) (f : ParseFault) (fault : ProgramFault) → fault ≡ of_tree f → Cut text tokens → IsCause text tokens f → IsFault text fault
syntactic text tokens f fault e cut cause = is_fault text fault (λ n. of_words tokens f cut cause e)

pub typing : (text : List ℕ) (raw : Raw) (f : TypeFault) (fault : ProgramFault) → fault ≡ of_types f → Spells text raw → (f ≢ type.Memory → Refuses raw f) → IsFault text fault
typing text raw f fault e s h = is_fault text fault (λ n. of_raw raw f s (h (λ is. n (e ∙ ap of_types is))) e)

-- the whole text of a program that isn't too large
pub whole : (text : List ℕ) (p : Program) → IsTypedText text p → operations p ≤ 4096 → IsTextOf text p
whole text p (raw, spells, typed) few = record { raw = raw; spells = spells; typed = typed; few = few }

pub sized : (text : List ℕ) (p : Program) → IsTypedText text p → (f : LowerFault) (fault : ProgramFault) → fault ≡ of_size f → IsRefused p f → IsFault text fault
sized text p (raw, spells, typed) (size.TooManyOps count at) fault e big = is_fault text fault (λ n. of_graph raw p count at spells typed big e)
sized text p t size.Memory fault e h = is_fault text fault (λ n. absurd (n e))

-- what is answered is the only fault, and the text is no program
pub has_fault : (text : List ℕ) (fault : ProgramFault) → fault ≢ Memory → IsFault text fault → HasFault text fault
has_fault text (Refused f place) n h = h
has_fault text Memory n h = absurd (n refl)

pub only_fault : (text : List ℕ) (fault : ProgramFault) → fault ≢ Memory → IsFault text fault → (other : ProgramFault) → other ≢ Memory → HasFault text other → fault ≡ other
only_fault text fault n h other m k = (one_reading text).fault fault other n m (has_fault text fault n h) k

pub no_program : (text : List ℕ) (fault : ProgramFault) → fault ≢ Memory → IsFault text fault → (p : Program) → IsTextOf text p → ⊥
no_program text fault n h p t = (one_reading text).either p fault n t (has_fault text fault n h)
