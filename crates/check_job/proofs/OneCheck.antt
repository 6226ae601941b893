-- A check of files comes to one answer at most.
use Rattle.std.proofs.Common.{◌≡◌, ◌∙◌, ℕ, List, Option, Some, None, sym, subst, ap, refl}
use Rattle.base_io.specs.Files.{Files}
use Rattle.cert_rules.specs.Faults.{Fault}
use Rattle.certificate.specs.Rows.{Certificate}
use Rattle.certificate.specs.Texts.{BadLineAt, Holds as HoldsCertificate}
use Rattle.certificate.proofs.Exact.{bad_only, holds_read, no_end}
use Rattle.certificate.proofs.Gathered.{one_certificate}
use Rattle.ti_txt.proofs.Loading.{holds_one}
use Rattle.job_files.specs.Answers.{Answer, IsDecided, done, refused}
use Rattle.job_files.specs.Boards.{IsNoBoard}
use Rattle.job_files.specs.Images.{IsNoImage}
use Rattle.job_files.specs.Reads.{AreHad}
use Rattle.job_files.specs.Refusals.{Refusal, board_refused, certificate_refused, image_refused, text_refused}
use Rattle.job_files.specs.Text.{Text}
use Rattle.job_files.specs.declared.refusal.BoardRefusal.{BoardRefusal}
use Rattle.job_files.specs.declared.refusal.ImageRefusal.{ImageRefusal}
use Rattle.job_files.proofs.OneBoard.{board_or, no_board_same, one_board_with}
use Rattle.job_files.proofs.OneFinding.{Finding, found, one_finding, reading_found}
use Rattle.job_files.proofs.OneImage.{image_or, image_same}
use Rattle.job_files.proofs.OneInput.{none_some, some_same}
use Rattle.check_job.specs.Check.{Check, CheckTexts, check_files, texts_in}
use Rattle.check_job.specs.Checking.{AreHeld, CheckCauses, CheckHolds, IsCertificateText, IsCertified, IsImageText, RefusesCheckFiles, RefusesRules}
use Rattle.cert_check.proofs.One.{one_verdict}

check_texts_same : (t u : CheckTexts) → texts_in t ≡ texts_in u → t ≡ u
check_texts_same t u e =
    let image : t.image ≡ u.image = cc in
    let certificate : t.certificate ≡ u.certificate = cc in
    let board : t.board ≡ u.board = cc in
    λ i. record { image = image i; certificate = certificate i; board = board i }

certificate_same : (text : Text) (c d : Certificate) → HoldsCertificate text c → HoldsCertificate text d → c ≡ d
certificate_same text c d h g = one_certificate c d (ap (λ r. r.0) (sym (holds_read text c h) ∙ holds_read text d g))

certificate_or : (text : Text) (c : Certificate) (at : ℕ) → HoldsCertificate text c → BadLineAt text at → ⊥
certificate_or text c at h g = no_end text at c (bad_only text at g) h

line_same : (text : Text) (m n : ℕ) → BadLineAt text m → BadLineAt text n → m ≡ n
line_same text m n h g = some_same m n (sym (bad_only text m h) ∙ bad_only text n g)

held_same : (budget : Option ℕ) (t : CheckTexts) (a b : CheckHolds) → AreHeld budget t a → AreHeld budget t b → a ≡ b
held_same budget t a b h k =
    let image : a.image ≡ b.image = holds_one t.image a.image b.image h.image k.image in
    let certificate : a.certificate ≡ b.certificate = certificate_same t.certificate a.certificate b.certificate h.certificate k.certificate in
    let board : a.board ≡ b.board = one_board_with budget t.board a.board b.board h.board k.board in
    λ i. record { image = image i; certificate = certificate i; board = board i }

-- ---- What the rules say

abbrev refused_by : Fault → Refusal
refused_by x = certificate_refused x.rule x.address x.left x.right

abbrev Breaks : CheckHolds → Fault → Type 0
Breaks held x = RefusesRules held (refused_by x)

breaks_same : (a b : CheckHolds) (x y : Fault) → a ≡ b → Breaks a x → Breaks b y → x ≡ y
breaks_same a b x y e h k =
    some_same x y (one_verdict b.image b.certificate b.board (Some x) (Some y) (subst (λ (s : CheckHolds). Breaks s x) e h) k)

breaks_or : (a b : CheckHolds) (x : Fault) → a ≡ b → Breaks a x → IsCertified b → ⊥
breaks_or a b x e h k =
    none_some x (one_verdict b.image b.certificate b.board None (Some x) k (subst (λ (s : CheckHolds). Breaks s x) e h))

-- ---- What the texts come to

pub data Coming (job : Check) (t : CheckTexts) : Answer → Type 0 where
  no_image : (k : ImageRefusal) (at : ℕ) → IsNoImage t.image k at → Coming job t (refused (image_refused k at))
  no_certificate : (at : ℕ) → IsImageText t.image → BadLineAt t.certificate at → Coming job t (refused (text_refused job.certificate at))
  no_board : (k : BoardRefusal) (key : Text) → IsImageText t.image → IsCertificateText t.certificate → IsNoBoard t.board k key → Coming job t (refused (board_refused k key))
  breaks : (held : CheckHolds) (x : Fault) → AreHeld job.budget t held → Breaks held x → Coming job t (refused (refused_by x))
  certified : (held : CheckHolds) → AreHeld job.budget t held → IsCertified held → Coming job t done

module _ (job : Check) (t : CheckTexts) where
  one_coming : (a b : Answer) → Coming job t a → Coming job t b → a ≡ b
  one_coming _ _ (no_image k m h) (no_image l n g) = ap refused (image_same t.image k l m n h g)
  one_coming _ _ (no_image k m h) (no_certificate at i g) = absurd (image_or t.image i.0 k m i.1 h)
  one_coming _ _ (no_image k m h) (no_board l key i c g) = absurd (image_or t.image i.0 k m i.1 h)
  one_coming _ _ (no_image k m h) (breaks held x s g) = absurd (image_or t.image held.image k m s.image h)
  one_coming _ _ (no_image k m h) (certified held s g) = absurd (image_or t.image held.image k m s.image h)
  one_coming _ _ (no_certificate at i g) (no_image k m h) = absurd (image_or t.image i.0 k m i.1 h)
  one_coming _ _ (no_certificate m i h) (no_certificate n j g) = ap (λ x. refused (text_refused job.certificate x)) (line_same t.certificate m n h g)
  one_coming _ _ (no_certificate m i h) (no_board l key j c g) = absurd (certificate_or t.certificate c.0 m c.1 h)
  one_coming _ _ (no_certificate m i h) (breaks held x s g) = absurd (certificate_or t.certificate held.certificate m s.certificate h)
  one_coming _ _ (no_certificate m i h) (certified held s g) = absurd (certificate_or t.certificate held.certificate m s.certificate h)
  one_coming _ _ (no_board l key i c g) (no_image k m h) = absurd (image_or t.image i.0 k m i.1 h)
  one_coming _ _ (no_board l key j c g) (no_certificate m i h) = absurd (certificate_or t.certificate c.0 m c.1 h)
  one_coming _ _ (no_board k m i c h) (no_board l n j d g) = ap refused (no_board_same t.board k l m n h g)
  one_coming _ _ (no_board k m i c h) (breaks held x s g) = absurd (board_or job.budget t.board held.board k m s.board h)
  one_coming _ _ (no_board k m i c h) (certified held s g) = absurd (board_or job.budget t.board held.board k m s.board h)
  one_coming _ _ (breaks held x s g) (no_image k m h) = absurd (image_or t.image held.image k m s.image h)
  one_coming _ _ (breaks held x s g) (no_certificate m i h) = absurd (certificate_or t.certificate held.certificate m s.certificate h)
  one_coming _ _ (breaks held x s g) (no_board k m i c h) = absurd (board_or job.budget t.board held.board k m s.board h)
  one_coming _ _ (breaks a x s h) (breaks b y r g) = ap (λ (f : Fault). refused (refused_by f)) (breaks_same a b x y (held_same job.budget t a b s r) h g)
  one_coming _ _ (breaks a x s h) (certified b r g) = absurd (breaks_or a b x (held_same job.budget t a b s r) h g)
  one_coming _ _ (certified held s g) (no_image k m h) = absurd (image_or t.image held.image k m s.image h)
  one_coming _ _ (certified held s g) (no_certificate m i h) = absurd (certificate_or t.certificate held.certificate m s.certificate h)
  one_coming _ _ (certified held s g) (no_board k m i c h) = absurd (board_or job.budget t.board held.board k m s.board h)
  one_coming _ _ (certified b r g) (breaks a x s h) = absurd (breaks_or a b x (held_same job.budget t a b s r) h g)
  one_coming _ _ (certified a s h) (certified b r g) = refl

-- ---- What the files come to

abbrev TextsCome : Check → List Text → Answer → Type 0
TextsCome job texts a = (t : CheckTexts) × (texts ≡ texts_in t) × Coming job t a

module _ (job : Check) (files : Files) where
  abbrev CheckFinding : Answer → Type 0
  CheckFinding a = Finding files (check_files job) (TextsCome job) a

  one_of_texts : (texts : List Text) (a b : Answer) → TextsCome job texts a → TextsCome job texts b → a ≡ b
  one_of_texts texts a b (t, e, v) (u, f, w) = one_coming job t a b v (subst (λ (x : CheckTexts). Coming job x b) (check_texts_same u t (sym f ∙ e)) w)

  texts_found : (t : CheckTexts) (a : Answer) → AreHad files (check_files job) (texts_in t) → Coming job t a → CheckFinding a
  texts_found t a had v = found (texts_in t) a had (t, refl, v)

  refused_found : (r : Refusal) → RefusesCheckFiles job files r → CheckFinding (refused r)
  refused_found (image_refused k at) h = texts_found h.0 (refused (image_refused k at)) h.1 (no_image k at h.2)
  refused_found (text_refused name at) h =
      subst (λ x. CheckFinding (refused (text_refused x at))) (sym h.2.1.0) (texts_found h.0 (refused (text_refused job.certificate at)) h.1 (no_certificate at h.2.0 h.2.1.1))
  refused_found (board_refused k key) h = texts_found h.0 (refused (board_refused k key)) h.1 (no_board k key h.2.0 h.2.1 h.2.2)
  refused_found (certificate_refused rule address left right) h =
      texts_found h.0 (refused (certificate_refused rule address left right)) h.1
      (breaks h.2.0 (record { rule = rule; address = address; left = left; right = right }) h.2.1 h.2.2)
  refused_found r h = absurd h.2.2

  check_finding : (a : Answer) → IsDecided a → CheckCauses job files a → CheckFinding a
  check_finding done d h = texts_found h.0 done h.1 (certified h.2.held h.2.are_held h.2.certified)
  check_finding a d h = reading_found files (check_files job) (TextsCome job) (RefusesCheckFiles job files) refused_found a d h

  pub one_check_cause : (a b : Answer) → IsDecided a → IsDecided b → CheckCauses job files a → CheckCauses job files b → a ≡ b
  one_check_cause a b d e h k = one_finding files (check_files job) (TextsCome job) one_of_texts a b (check_finding a d h) (check_finding b e k)
