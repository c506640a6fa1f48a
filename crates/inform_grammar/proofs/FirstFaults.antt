-- The fault that is read is the first one.
use Rattle.std.proofs.Common.{◌≡◌, ◌⊎◌, inl, inr, ℕ, zero, suc, ◌≤◌, ◌<◌, Bool, true, false, cond, List, [], ◌∷◌, ◌++◌, Option, Some, None, Ok, Err, refl, sym, ap, ap₂, subst, ◌∙◌, append_assoc, append-nil, arith}
use Rattle.std.specs.Bool.{MatchBool}
use Rattle.std.proofs.lemmas.Bool.{cases_lt}
use Rattle.std.specs.Prelude.{⊤}
use Rattle.inform_tree.specs.Programs.{DirectiveTree}
use Rattle.inform_lexemes.specs.Lexemes.{Lexeme}
use Rattle.inform_lexemes.specs.Laws.{SymbolsTold, KeywordsTold}
use Rattle.inform_grammar.specs.Faults.{FaultKind, Unexpected, Mixed, TooDeep, Fault, fault}
use Rattle.inform_grammar.specs.Lexemes.{is_opener, is_closer, swapped, one_less}
use Rattle.inform_grammar.specs.Plan.{Plan, done, refuse, next, look, maybe, chain, shut, ◌>>=◌}
use Rattle.inform_grammar.specs.Rule.{rule, program}
use Rattle.inform_grammar.specs.Reading.{StepResult, stops, gives, goes, either_way, step, input, Answer, opened_after, taken, at_end, at_lexeme, reads, open_after, open_before, no_limit}
use Rattle.inform_grammar.specs.Laws.{IsPrefix, NoneGoesOn, NoOtherGoesOn, Explains, FirstFault}
use Rattle.inform_grammar.proofs.Says.{Fits}
use Rattle.inform_grammar.proofs.Held.{not-both, same-answers}
use Rattle.inform_grammar.proofs.ReadSentences.{read-sentence}
use Rattle.inform_grammar.proofs.SaysSentences.{read-is-sentence}
use Rattle.inform_grammar.proofs.Ready.{Place, Program, Good}
use Rattle.inform_grammar.proofs.ReadyPlans.{GoodNext, good-step}
use Rattle.inform_grammar.proofs.ReadyStatements.{ready, program-good}
use Rattle.inform_grammar.proofs.FaultKinds.{Goes, Judged, judged, refused_with, same-faults, end-kind}
use Rattle.inform_grammar.proofs.Paired.{Paired, PairedNext, Apart, apart-swapped, paired-step}
use Rattle.inform_grammar.proofs.PairedRules.{paired, program-paired}

-- ---- from a plan to another

-- some lexemes lead from a plan to another, and from so many that are open to others
abbrev Leads : {X : Type 0} → (ℕ → Bool) → List Lexeme → Plan X → ℕ → Plan X → ℕ → Type 0
Leads room [] p n q i = (p ≡ q) × (n ≡ i)
Leads {X = X} room (x ∷ xs) p n q i =
    (after : Plan X) × (m : ℕ) × (step (Some x) p n ≡ goes after m) × Fits room x m × Leads room xs after (opened_after x m) q i

fits-taken : {X : Type 0} (room : ℕ → Bool) (x : Lexeme) (xs : List Lexeme) (n : ℕ) (go : ℕ → Answer X) → Fits room x n → taken room x xs n go ≡ go (opened_after x n)
fits-taken {X = X} room x xs n go = by (is_opener x) (room n) (cond (is_closer x) (one_less n) n)
  where
    by : (b c : Bool) (i : ℕ) → MatchBool b (c ≡ true) ⊤ → cond b (cond c (go (suc n)) (Err (fault TooDeep (x ∷ xs)))) (go (cond b (suc n) i)) ≡ go (cond b (suc n) i)
    by true true i f = refl
    by true false i f = absurd (cc)
    by false c i f = refl

-- what is read after them is read by the other plan
leads-reads : {X : Type 0} (room : ℕ → Bool) (before : List Lexeme) (p q : Plan X) (n i : ℕ) → Leads room before p n q i → (rest : List Lexeme)
    → reads room (before ++ rest) p n ≡ reads room rest q i
unfolding reads
leads-reads room [] p q n i l rest = ap₂ (λ p n. reads room rest p n) l.0 l.1
leads-reads room (x ∷ xs) p q n i l rest =
    ap (λ o. at_lexeme room x (xs ++ rest) o (reads room (xs ++ rest))) l.2
    ∙ fits-taken room x (xs ++ rest) l.1 (reads room (xs ++ rest) l.0) l.3
    ∙ leads-reads room xs l.0 q (opened_after x l.1) i l.4 rest

fits-free : (x : Lexeme) (n : ℕ) → Fits no_limit x n
fits-free x n = by (is_opener x)
  where
    by : (b : Bool) → MatchBool b (true ≡ true) ⊤
    by true = refl
    by false = tt

leads-free : {X : Type 0} (room : ℕ → Bool) (before : List Lexeme) (p q : Plan X) (n i : ℕ) → Leads room before p n q i → Leads no_limit before p n q i
leads-free room [] p q n i l = l
leads-free room (x ∷ xs) p q n i l = (l.0, l.1, l.2, fits-free x l.1, leads-free room xs l.0 q (opened_after x l.1) i l.4)

-- one lexeme more
leads-on : {X : Type 0} (before : List Lexeme) (p q after : Plan X) (n i m : ℕ) (x : Lexeme) → Leads no_limit before p n q i
    → step (Some x) q i ≡ goes after m → Leads no_limit (before ++ x ∷ []) p n after (opened_after x m)
leads-on [] p q after n i m x l e =
    (after, m, ap₂ (λ p n. step (Some x) p n) l.0 l.1 ∙ e, fits-free x m, (refl, refl))
leads-on (y ∷ ys) p q after n i m x l e = (l.0, l.1, l.2, l.3, leads-on ys l.0 q after (opened_after y l.1) i m x l.4 e)

-- a plan that can be completed leads to such plans
leads-good : {X : Type 0} (place : Place) (room : ℕ → Bool) (before : List Lexeme) (p q : Plan X) (n i : ℕ) → Leads room before p n q i → Good place p → Good place q
leads-good place room [] p q n i l g = subst (Good place) l.0 g
leads-good place room (x ∷ xs) p q n i l g =
    leads-good place room xs l.0 q (opened_after x l.1) i l.4 (subst (GoodNext place) l.2 (good-step ready place x p n g.onward))

-- and so does one in which each connective has the other
leads-paired : {X : Type 0} (room : ℕ → Bool) (before : List Lexeme) (p q : Plan X) (n i : ℕ) → Leads room before p n q i → Paired p → Paired q
leads-paired room [] p q n i l h = subst Paired l.0 h
leads-paired room (x ∷ xs) p q n i l h =
    leads-paired room xs l.0 q (opened_after x l.1) i l.4 (subst PairedNext l.2 (paired-step paired x p n h.leading))

-- ---- how many are open

leads-open : {X : Type 0} (room : ℕ → Bool) (before : List Lexeme) (p q after : Plan X) (n i m : ℕ) (x : Lexeme) → Leads room before p n q i
    → step (Some x) q i ≡ goes after m → open_before before x p n ≡ Some m
unfolding open_before
leads-open room [] p q after n i m x l e = ap (λ o. open_after o (λ q m. Some m)) (ap₂ (λ p n. step (Some x) p n) l.0 l.1 ∙ e)
leads-open room (y ∷ ys) p q after n i m x l e =
    ap (λ o. open_after o (λ q m. open_before ys x q (opened_after y m))) l.2 ∙ leads-open room ys l.0 q after (opened_after y l.1) i m x l.4 e

-- no more are open before a lexeme that is taken
abbrev Fewer : {X : Type 0} → ℕ → StepResult X → Type 0
Fewer n (stops kind) = ⊤
Fewer n (gives v m) = ⊤
Fewer n (goes p m) = m ≤ n

fewer-less : {X : Type 0} (n : ℕ) (o : StepResult X) → Fewer (one_less n) o → Fewer n o
fewer-less n (stops kind) h = tt
fewer-less n (gives v m) h = tt
fewer-less zero (goes p m) h = h
fewer-less (suc n) (goes p m) h = omega (arith, h)

fewer-next : {X : Type 0} (b : Bool) (x : Lexeme) (k : Lexeme → Plan X) (n : ℕ) (other : StepResult X) → Fewer n other
    → Fewer n (either_way (cond b (Some x) None) (λ x. goes (k x) n) other)
fewer-next true x k n other h = omega arith
fewer-next false x k n other h = h

fewer-look : {X : Type 0} (b : Bool) (x : Lexeme) (n : ℕ) (same other : StepResult X) → Fewer n same → Fewer n other
    → Fewer n (either_way (cond b (Some x) None) (λ _. same) other)
fewer-look true x n same other g h = g
fewer-look false x n same other g h = h

fewer-rule : {X Y : Type 0} (o : Option (Plan Y)) (k : Y → Plan X) (n : ℕ) (other : StepResult X) → Fewer n other
    → Fewer n (either_way o (λ p. goes (p >>= k) n) other)
fewer-rule None k n other h = h
fewer-rule (Some p) k n other h = omega arith

-- whatever the plan, no more are open before the lexeme that it takes than there were
step-fewer : {X : Type 0} (x : Lexeme) (p : Plan X) (n : ℕ) → Fewer n (step (Some x) p n)
unfolding step
step-fewer x (done v) n = tt
step-fewer x refuse n = tt
step-fewer x (next test k q) n = fewer-next (test x) x k n (step (Some x) q n) (step-fewer x q n)
step-fewer x (look test p q) n = fewer-look (test x) x n (step (Some x) p n) (step (Some x) q n) (step-fewer x p n) (step-fewer x q n)
step-fewer x (maybe r k q) n = fewer-rule (rule r x) k n (step (Some x) q n) (step-fewer x q n)
step-fewer x (chain r test front k) n =
    fewer-rule (rule r x) (λ y. chain r test (front ++ y ∷ []) k) n _
    (fewer-look (test x) x n (stops Mixed) (step (Some x) (k front) n) tt (step-fewer x (k front) n))
step-fewer x (shut p) n = fewer-less n (step (Some x) p (one_less n)) (step-fewer x p (one_less n))

-- there was room for each of those that are open
abbrev HadRoom : (ℕ → Bool) → ℕ → Type 0
HadRoom room n = (k : ℕ) → k < n → room k ≡ true

had-fewer : (room : ℕ → Bool) (n m : ℕ) → m ≤ n → HadRoom room n → HadRoom room m
had-fewer room n m few h k below = h k (omega (arith, few, below))

-- if there was room for each that is open before a lexeme that fits, so there was for each after it
had-after : (room : ℕ → Bool) (x : Lexeme) (n : ℕ) → Fits room x n → HadRoom room n → HadRoom room (opened_after x n)
had-after room x n = by (is_opener x) (is_closer x)
  where
    had-one : (m : ℕ) → room m ≡ true → HadRoom room m → HadRoom room (suc m)
    had-one m free h k below = by-place (cases_lt k m)
      where
        by-place : (k < m) ⊎ (m ≤ k) → room k ≡ true
        by-place (inl less) = h k less
        by-place (inr most) = let same : m ≡ k = omega (arith, most, below) in subst (λ (i : ℕ). room i ≡ true) same free

    had-less : (m : ℕ) → HadRoom room m → HadRoom room (one_less m)
    had-less zero h = h
    had-less (suc m) h = had-fewer room (suc m) m (omega arith) h

    by : (a b : Bool) → MatchBool a (room n ≡ true) ⊤ → HadRoom room n → HadRoom room (cond a (suc n) (cond b (one_less n) n))
    by true b free h = had-one n free h
    by false true free h = had-less n h
    by false false free h = h

leads-room : {X : Type 0} (room : ℕ → Bool) (before : List Lexeme) (p q : Plan X) (n i : ℕ) → Leads room before p n q i → HadRoom room n → HadRoom room i
leads-room room [] p q n i l h = subst (HadRoom room) l.1 h
leads-room room (x ∷ xs) p q n i l h =
    let few : l.1 ≤ n = subst (Fewer n) l.2 (step-fewer x p n) in
    leads-room room xs l.0 q (opened_after x l.1) i l.4 (had-after room x l.1 l.3 (had-fewer room n l.1 few h))

-- ---- where a fault stands

-- the plan and the number of openers at a fault; there is no room for an opener, or the lexeme
-- can't stand there
abbrev StopsAt : {X : Type 0} → (ℕ → Bool) → Plan X → ℕ → FaultKind → List Lexeme → Type 0
StopsAt room q i kind [] = at_end (step None q i) ≡ refused_with kind []
StopsAt {X = X} room q i kind (x ∷ xs) =
    (step (Some x) q i ≡ stops kind)
    ⊎ ((after : Plan X) × (m : ℕ) × (step (Some x) q i ≡ goes after m) × (is_opener x ≡ true) × (room m ≡ false) × (kind ≡ TooDeep))

record Trace {X : Type 0} (room : ℕ → Bool) (p : Plan X) (n : ℕ) (kind : FaultKind) (ts rest : List Lexeme) : Type 0 where
  before : List Lexeme
  plan : Plan X
  opened : ℕ
  whole : ts ≡ before ++ rest
  leads : Leads room before p n plan opened
  stop : StopsAt room plan opened kind rest

module _ {X : Type 0} (room : ℕ → Bool) where
  at-end-rest : (o : StepResult X) (kind : FaultKind) (rest : List Lexeme) → at_end o ≡ refused_with kind rest → [] ≡ rest
  at-end-rest (stops k) kind rest e = (same-faults k kind [] rest e).1
  at-end-rest (gives v n) kind rest e = not-both (sym e)
  at-end-rest (goes p n) kind rest e = (same-faults Unexpected kind [] rest e).1

  -- a lexeme that was taken before a fault, or the fault at it
  taken-fault : {A : Type 0} (x : Lexeme) (xs : List Lexeme) (n : ℕ) (go : ℕ → Answer X) (kind : FaultKind) (rest : List Lexeme)
      → taken room x xs n go ≡ refused_with kind rest
      → (Fits room x n → go (opened_after x n) ≡ refused_with kind rest → A)
      → (is_opener x ≡ true → room n ≡ false → TooDeep ≡ kind → x ∷ xs ≡ rest → A) → A
  taken-fault {A = A} x xs n go kind rest = by (is_opener x) (room n) (cond (is_closer x) (one_less n) n)
    where
      by : (b c : Bool) (i : ℕ) → cond b (cond c (go (suc n)) (Err (fault TooDeep (x ∷ xs)))) (go (cond b (suc n) i)) ≡ refused_with kind rest
          → (MatchBool b (c ≡ true) ⊤ → go (cond b (suc n) i) ≡ refused_with kind rest → A)
          → (b ≡ true → c ≡ false → TooDeep ≡ kind → x ∷ xs ≡ rest → A) → A
      by true true i e one other = one refl e
      by true false i e one other = let a = same-faults TooDeep kind (x ∷ xs) rest e in other refl refl a.0 a.1
      by false c i e one other = one tt e

  -- a fault at a lexeme or after it has a trace, if each fault in the lexemes after it has one
  trace-here : (x : Lexeme) (xs : List Lexeme) (p : Plan X) (n : ℕ) (kind : FaultKind) (rest : List Lexeme)
      → ((q : Plan X) (i : ℕ) → reads room xs q i ≡ refused_with kind rest → Trace room q i kind xs rest)
      → (o : StepResult X) → step (Some x) p n ≡ o → at_lexeme room x xs o (reads room xs) ≡ refused_with kind rest → Trace room p n kind (x ∷ xs) rest
  trace-here x xs p n kind rest later (stops k) same e =
      let a = same-faults k kind (x ∷ xs) rest e in
      record {
        before = [];
        plan = p;
        opened = n;
        whole = a.1;
        leads = (refl, refl);
        stop = subst (StopsAt room p n kind) a.1 (inl (subst (λ k. step (Some x) p n ≡ stops k) a.0 same));
      }
  trace-here x xs p n kind rest later (gives v m) same e = not-both (sym e)
  trace-here x xs p n kind rest later (goes q m) same e =
      taken-fault x xs m (reads room xs q) kind rest e
      (λ f e. let t = later q (opened_after x m) e in record {
        before = x ∷ t.before;
        plan = t.plan;
        opened = t.opened;
        whole = ap (λ ts. x ∷ ts) t.whole;
        leads = (q, m, same, f, t.leads);
        stop = t.stop;
      })
      (λ b c k r. record {
        before = [];
        plan = p;
        opened = n;
        whole = r;
        leads = (refl, refl);
        stop = subst (StopsAt room p n kind) r (inr (q, m, same, b, c, sym k));
      })

  -- each fault has a trace: some lexemes lead from the plan to where it stands
  trace : (ts : List Lexeme) (p : Plan X) (n : ℕ) (kind : FaultKind) (rest : List Lexeme) → reads room ts p n ≡ refused_with kind rest → Trace room p n kind ts rest
  unfolding reads
  trace [] p n kind rest e =
      let r = at-end-rest (step None p n) kind rest e in
      record {
        before = [];
        plan = p;
        opened = n;
        whole = r;
        leads = (refl, refl);
        stop = subst (StopsAt room p n kind) r (subst (λ ts. at_end (step None p n) ≡ refused_with kind ts) (sym r) e);
      }
  trace (x ∷ xs) p n kind rest e = trace-here x xs p n kind rest (λ q i e. trace xs q i kind rest e) (step (Some x) p n) refl e

-- ---- a prefix of a sentence

module _ (told : SymbolsTold) (words : KeywordsTold) where
  -- lexemes after which the plan can be completed
  prefix : (before : List Lexeme) (q : Plan (List DirectiveTree)) (i : ℕ) → Leads no_limit before program 0 q i → Good Program q → IsPrefix no_limit before
  prefix before q i l g =
      let c = g.completes in
      let h = c.finishes [] i tt in (
        c.more ++ [],
        c.value,
        read-is-sentence told words no_limit c.value (before ++ (c.more ++ [])) h.0 []
            (leads-reads no_limit before program q 0 i l (c.more ++ []) ∙ h.1),
      )

  -- the same with one lexeme more
  prefix-on : (before : List Lexeme) (q : Plan (List DirectiveTree)) (i : ℕ) (x : Lexeme) → Leads no_limit before program 0 q i → Good Program q
      → (o : StepResult (List DirectiveTree)) → step (Some x) q i ≡ o → Goes o → IsPrefix no_limit (before ++ x ∷ [])
  prefix-on before q i x l g (stops kind) e h = absurd h
  prefix-on before q i x l g (gives v n) e h = absurd h
  prefix-on before q i x l g (goes after m) e h =
      prefix (before ++ x ∷ []) after (opened_after x m) (leads-on before program q after 0 i m x l e)
      (subst (GoodNext Program) e (good-step ready Program x q i g.onward))

  module _ (room : ℕ → Bool) (before : List Lexeme) (q : Plan (List DirectiveTree)) (i : ℕ) (l : Leads room before program 0 q i) where
    -- where reading stops, no sentence goes on
    none-at-end : (kind : FaultKind) → at_end (step None q i) ≡ refused_with kind [] → NoneGoesOn room before []
    unfolding reads
    none-at-end kind e p d =
        not-both (sym e ∙ sym (leads-reads room before program q 0 i l []) ∙ ap (λ ts. reads room ts program 0) (append-nil before) ∙ read-sentence room p before d)

    none-goes-on : (x : Lexeme) (rest : List Lexeme) (kind : FaultKind)
        → ((more : List Lexeme) → at_lexeme room x more (step (Some x) q i) (reads room more) ≡ refused_with kind (x ∷ more)) → NoneGoesOn room before (x ∷ rest)
    unfolding reads
    none-goes-on x rest kind e (more, p, d) =
        not-both (sym (e more) ∙ sym (leads-reads room before program q 0 i l (x ∷ more))
        ∙ ap (λ ts. reads room ts program 0) (sym (append_assoc before (x ∷ []) more)) ∙ read-sentence room p ((before ++ x ∷ []) ++ more) d)

    -- all that is read ends before the lexeme
    gives-none : (x : Lexeme) (rest : List Lexeme) (v : List DirectiveTree) (m : ℕ) → step (Some x) q i ≡ gives v m → NoneGoesOn room before (x ∷ rest)
    unfolding reads
    gives-none x rest v m e (more, p, d) =
        let whole : reads room (before ++ x ∷ more) program 0 ≡ Ok (p, input 0 []) =
        ap (λ ts. reads room ts program 0) (sym (append_assoc before (x ∷ []) more)) ∙ read-sentence room p ((before ++ x ∷ []) ++ more) d in
        let here : reads room (before ++ x ∷ more) program 0 ≡ Ok (v, input m (x ∷ more)) =
        leads-reads room before program q 0 i l (x ∷ more) ∙ ap (λ o. at_lexeme room x more o (reads room more)) e in
        let none : x ∷ more ≡ [] = (same-answers v p m 0 (x ∷ more) [] (sym here ∙ whole)).2 in absurd (cc)

    stops-none : (x : Lexeme) (rest : List Lexeme) (kind : FaultKind) → step (Some x) q i ≡ stops kind → NoneGoesOn room before (x ∷ rest)
    stops-none x rest kind e = none-goes-on x rest kind (λ more. ap (λ o. at_lexeme room x more o (reads room more)) e)

    deep-none : (x : Lexeme) (rest : List Lexeme) (after : Plan (List DirectiveTree)) (m : ℕ) → step (Some x) q i ≡ goes after m → is_opener x ≡ true → room m ≡ false
        → NoneGoesOn room before (x ∷ rest)
    deep-none x rest after m e b c =
        none-goes-on x rest TooDeep (λ more.
        ap (λ o. at_lexeme room x more o (reads room more)) e
        ∙ ap (λ b. cond b (cond (room m) (reads room more after (suc m)) (Err (fault TooDeep (x ∷ more)))) (reads room more after (opened_after x m))) b
        ∙ ap (λ c. cond c (reads room more after (suc m)) (Err (fault TooDeep (x ∷ more)))) c)

  -- ---- why it stands

  module _ (room : ℕ → Bool) (before : List Lexeme) (q : Plan (List DirectiveTree)) (i : ℕ) (l : Leads room before program 0 q i) (g : Good Program q) (h : Paired q) where
    -- a lexeme that isn't taken
    not-taken : (y : Lexeme) (o : StepResult (List DirectiveTree)) → step (Some y) q i ≡ o → (Goes o → ⊥) → IsPrefix no_limit (before ++ y ∷ []) → ⊥
    not-taken y (stops kind) e h = stops-none no_limit before q i (leads-free room before program q 0 i l) y [] kind e
    not-taken y (gives v m) e h = gives-none no_limit before q i (leads-free room before program q 0 i l) y [] v m e
    not-taken y (goes p m) e h = absurd (h tt)

    none-other : (x : Lexeme) (rest : List Lexeme) → step (Some x) q i ≡ stops Unexpected → NoOtherGoesOn before (x ∷ rest)
    none-other x rest e c =
        not-taken (swapped x) (step (Some (swapped x)) q i) refl (subst (λ o. Apart o (step (Some (swapped x)) q i)) e (apart-swapped x q i c h.both))

    stands-stopped : (x : Lexeme) (rest : List Lexeme) (kind : FaultKind) → step (Some x) q i ≡ stops kind
        → Judged x (stops kind) (step (Some (swapped x)) q i) → Explains room kind before (x ∷ rest)
    stands-stopped x rest Unexpected e j =
        (stops-none no_limit before q i (leads-free room before program q 0 i l) x rest Unexpected e, none-other x rest e)
    stands-stopped x rest Mixed e j = (
      j.0,
      stops-none no_limit before q i (leads-free room before program q 0 i l) x rest Mixed e,
      prefix-on before q i (swapped x) (leads-free room before program q 0 i l) g (step (Some (swapped x)) q i) refl j.1,
    )
    stands-stopped x rest TooDeep e j = absurd j

    stands-deep : (x : Lexeme) (rest : List Lexeme) (after : Plan (List DirectiveTree)) (m : ℕ) → step (Some x) q i ≡ goes after m → is_opener x ≡ true
        → room m ≡ false → Explains room TooDeep before (x ∷ rest)
    stands-deep x rest after m e b c =
        let few : m ≤ i = subst (Fewer i) e (step-fewer x q i) in
        let had : HadRoom room m = had-fewer room i m few (leads-room room before program q 0 i l (λ k below. absurd (omega (arith, below)))) in (
          b,
          prefix-on before q i x (leads-free room before program q 0 i l) g (goes after m) e tt,
          (m, leads-open room before program q after 0 i m x l e, (c, had)),
        )

    stands : (kind : FaultKind) (rest : List Lexeme) → StopsAt room q i kind rest → NoneGoesOn room before rest × Explains room kind before rest
    stands kind [] e = (
      none-at-end room before q i l kind e,
      subst (λ kind. Explains room kind before []) (end-kind q i kind [] e).0 (none-at-end no_limit before q i (leads-free room before program q 0 i l) kind e, tt),
    )
    stands kind (x ∷ rest) (inl e) = (
      stops-none room before q i l x rest kind e,
      stands-stopped x rest kind e (subst (λ o. Judged x o (step (Some (swapped x)) q i)) e (judged Program x q i g.onward)),
    )
    stands kind (x ∷ rest) (inr (after, m, e, b, c, k)) =
        (deep-none room before q i l x rest after m e b c, subst (λ kind. Explains room kind before (x ∷ rest)) (sym k) (stands-deep x rest after m e b c))

  -- the fault that is read is the first one
  pub fault-is-first : (room : ℕ → Bool) (ts : List Lexeme) (f : Fault) → reads room ts program 0 ≡ Err f → FirstFault room ts f
  fault-is-first room ts f e =
      let t = trace room ts program 0 f.kind f.rest e in
      let g = leads-good Program room t.before program t.plan 0 t.opened t.leads program-good in
      let h = leads-paired room t.before program t.plan 0 t.opened t.leads program-paired in
      let s = stands room t.before t.plan t.opened t.leads g h f.kind f.rest t.stop in
      record {
        before = t.before;
        whole = t.whole;
        begun = prefix t.before t.plan t.opened (leads-free room t.before program t.plan 0 t.opened t.leads) g;
        ends = s.0;
        stands = s.1;
      }
