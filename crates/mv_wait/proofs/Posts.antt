-- A post, target by target: what is left of its program is a stack of lists that are still to be posted.
use Rattle.std.proofs.Common.{◌≡◌, ℕ, zero, suc, ◌+◌, ◌-◌, ◌<◌, ◌≤◌, append-nil, List, [], ◌∷◌, ◌++◌, length, Some, refl, sym, ap}
use Rattle.std.proofs.Common.{◌∙◌, subst, arith}
use Rattle.std.specs.List.{AllByRecursion}
use Rattle.mv_ecb.specs.declared.operation.EcbOp.TheVariants.{Post}
use Rattle.mv_ecb.specs.declared.operation.EcbReply.{EcbReply}
use Rattle.mv_ecb.specs.declared.operation.EcbReply.TheVariants as ecb_reply
use Rattle.mv_latch.proofs.Joined.{both_empty}
use Rattle.mv_machine.specs.declared.entry.Object.{Object}
use Rattle.mv_machine.specs.declared.entry.Object.TheVariants.{Ecb}
use Rattle.mv_machine.specs.declared.entry.Op.{Op}
use Rattle.mv_machine.specs.declared.entry.Op.TheVariants as op_on
use Rattle.mv_machine.specs.declared.entry.Reply.TheVariants as reply_of
use Rattle.mv_config.specs.Limits.{events_limit}
use Rattle.mv_config.specs.Setup.{Setup, targets_of}
use Rattle.mv_board.specs.Faces.{CallerFace, Happened}
use Rattle.mv_machine.specs.declared.entry.Entry.{Entry}
use Rattle.mv_machine.specs.declared.entry.Reply.{Reply}
use Rattle.mv_config.specs.Reach.{reach, total}
use Rattle.mv_calls.specs.Rest.{IsAtRest, no_waits}
use Rattle.mv_calls.proofs.Making.{waits_from-append}
use Rattle.mv_wait.proofs.Exits.{total-append}
use Rattle.mv_calls.specs.declared.outcomes.PostAnswer.{PostAnswer}
use Rattle.mv_calls.specs.declared.outcomes.PostAnswer.TheVariants as answer
use Rattle.mv_calls.specs.Posts.{posting, post, post_within, each_posted, posted_next}
use Rattle.mv_calls.specs.Program.{Program, Do, Done, Heard, asks, heard, and_then, on_ecb}
use Rattle.mv_wait.specs.Posted.{Leads, answer_in}
use Rattle.mv_wait.specs.Run.{Runs, IsServed}
use Rattle.mv_wait.proofs.Runs.{runs_word, runs_then, runs_within, serves}

-- blocks of one exit that are still to be posted, how deep exits are followed there, and the answer of the post that has the exit
pub record Frame : Type 0 where
  pub depth : ℕ
  pub blocks : List ℕ
  pub answer : PostAnswer

-- all that is still to be posted, the next one first
abbrev pub flat : List Frame → List ℕ
flat [] = []
flat (f ∷ fs) = f.blocks ++ flat fs

module _ (c : Setup) (code : ℕ) where
  -- a program and what is to be posted after it
  abbrev pub behind : Program PostAnswer → List Frame → Program PostAnswer
  behind p [] = p
  behind p (f ∷ fs) = behind (and_then p (λ a. each_posted (post_within f.depth c code) f.blocks f.answer)) fs

  asks_behind : (o : Object) (op : Op) (next : Heard → Program PostAnswer) (fs : List Frame) → asks (behind (Do o op next) fs) ≡ Some (o, op)
  asks_behind o op next [] = refl
  asks_behind o op next (f ∷ fs) =
      asks_behind o op (λ h. and_then (next h) (λ a. each_posted (post_within f.depth c code) f.blocks f.answer)) fs

  heard_behind : (o : Object) (op : Op) (next : Heard → Program PostAnswer) (h : Heard) (fs : List Frame)
      → heard (behind (Do o op next) fs) h ≡ behind (next h) fs
  heard_behind o op next h [] = refl
  heard_behind o op next h (f ∷ fs) =
      heard_behind o op (λ x. and_then (next x) (λ a. each_posted (post_within f.depth c code) f.blocks f.answer)) h fs

  -- exits of these blocks are followed deep enough
  abbrev pub AreDeep : ℕ → List ℕ → Type 0
  AreDeep depth es = AllByRecursion (λ e. (length c.owners ≤ e + depth) × (e < length c.owners)) es

  abbrev pub AllDeep : List Frame → Type 0
  AllDeep fs = AllByRecursion (λ f. AreDeep f.depth f.blocks) fs

  -- the last of them has the answer of the whole post
  abbrev pub EndsIn : PostAnswer → List Frame → Type 0
  EndsIn a [] = ⊥
  EndsIn a (f ∷ []) = f.answer ≡ a
  EndsIn a (f ∷ g ∷ fs) = EndsIn a (g ∷ fs)

  -- nothing more is to be posted
  ends_one : (a x : PostAnswer) (f : Frame) (es : List ℕ) → f.answer ≡ a → es ≡ []
      → and_then (Done x) (λ p. each_posted (post_within f.depth c code) es f.answer) ≡ Done a
  ends_one a x f [] e none = ap (λ p. Done p) e
  ends_one a x f (n ∷ es) e none = absurd (cc none)

  pub ends : (a x : PostAnswer) (fs : List Frame) → EndsIn a fs → flat fs ≡ [] → behind (Done x) fs ≡ Done a
  ends a x [] e none = absurd e
  ends a x (f ∷ []) e none = ends_one a x f f.blocks e (both_empty f.blocks [] none).0
  ends a x (f ∷ g ∷ fs) e none =
      let parts = both_empty f.blocks (flat (g ∷ fs)) none in
      subst (λ (es : List ℕ). behind (and_then (Done x) (λ p. each_posted (post_within f.depth c code) es f.answer)) (g ∷ fs) ≡ Done a)
      (sym parts.0)
      (ends a f.answer (g ∷ fs) e parts.1)

  -- the next block's post, and what is to be posted after it
  pub record Next (a : PostAnswer) (e : ℕ) (later : List ℕ) (fs : List Frame) : Type 0 where
    pub depth : ℕ
    pub deep : (length c.owners ≤ e + suc depth) × (e < length c.owners)
    pub frames : List Frame
    pub flat_is : flat frames ≡ later
    pub all_deep : AllDeep frames
    pub ends_in : EndsIn a frames
    pub same : (x : PostAnswer) → behind (Done x) fs ≡ behind (post_within (suc depth) c code e) frames

  next_in : (a : PostAnswer) (depth e : ℕ) (es later : List ℕ) (answer : PostAnswer) (fs : List Frame)
      → EndsIn a (record { depth = depth; blocks = e ∷ es; answer = answer } ∷ fs)
      → AllDeep (record { depth = depth; blocks = e ∷ es; answer = answer } ∷ fs) → es ++ flat fs ≡ later
      → Next a e later (record { depth = depth; blocks = e ∷ es; answer = answer } ∷ fs)
  next_in a zero e es later answer fs ending deep is = let d = deep.0.0 in absurd (omega arith)
  next_in a (suc depth) e es later answer fs ending deep is = record {
    depth = depth;
    deep = deep.0.0;
    frames = record { depth = suc depth; blocks = es; answer = answer } ∷ fs;
    flat_is = is;
    all_deep = (deep.0.1, deep.1);
    ends_in = same_end fs ending;
    same = λ x. refl;
  } where
    same_end : (gs : List Frame) → EndsIn a (record { depth = suc depth; blocks = e ∷ es; answer = answer } ∷ gs)
        → EndsIn a (record { depth = suc depth; blocks = es; answer = answer } ∷ gs)
    same_end [] x = x
    same_end (g ∷ gs) x = x

  in_frame : (a : PostAnswer) (e : ℕ) (others : List ℕ) (f : Frame) (fs : List Frame) (es : List ℕ) → f.blocks ≡ es → EndsIn a (f ∷ fs)
      → AllDeep (f ∷ fs) → es ++ flat fs ≡ e ∷ others
      → (EndsIn a fs → AllDeep fs → flat fs ≡ e ∷ others → Next a e others fs) → Next a e others (f ∷ fs)
  in_frame a e others f [] [] is ending deep flat_is later = absurd (cc flat_is)
  in_frame a e others f (g ∷ fs) [] is ending deep flat_is later =
      let n = later ending deep.1 flat_is in record {
        depth = n.depth;
        deep = n.deep;
        frames = n.frames;
        flat_is = n.flat_is;
        all_deep = n.all_deep;
        ends_in = n.ends_in;
        same = λ x. subst (λ (es : List ℕ). behind (and_then (Done x) (λ p. each_posted (post_within f.depth c code) es f.answer))
            (g ∷ fs) ≡ behind (post_within (suc n.depth) c code e) n.frames) (sym is) (n.same f.answer);
      }
  in_frame a e others f fs (m ∷ es) is ending deep flat_is later =
      let same : m ≡ e = cc flat_is in
      let tail : es ++ flat fs ≡ others = cc flat_is in
      let frame : f ≡ record { depth = f.depth; blocks = e ∷ es; answer = f.answer } =
      (λ i. record { depth = f.depth; blocks = (is ∙ ap (λ n. n ∷ es) same) i; answer = f.answer }) in
      subst (λ (g : Frame). Next a e others (g ∷ fs)) (sym frame)
      (next_in a f.depth e es others f.answer fs (subst (λ (g : Frame). EndsIn a (g ∷ fs)) frame ending)
      (subst (λ (g : Frame). AllDeep (g ∷ fs)) frame deep) tail)

  pub next_of : (a : PostAnswer) (e : ℕ) (later : List ℕ) (fs : List Frame) → EndsIn a fs → AllDeep fs → flat fs ≡ e ∷ later
      → Next a e later fs
  next_of a e later [] ending deep is = absurd ending
  next_of a e later (f ∷ fs) ending deep is = in_frame a e later f fs f.blocks refl ending deep is (λ x y z. next_of a e later fs x y z)

  -- ---- one post

  abbrev after_post : ℕ → Reply → Program PostAnswer
  after_post depth reply = on_ecb reply (λ r. posting (λ b. each_posted (post_within depth c code) (posted_next c r) b) r)

  posted_on : (depth : ℕ) (r : EcbReply) (a : PostAnswer) → answer_in (reply_of.Ecb r) ≡ Some a
      → after_post depth (reply_of.Ecb r) ≡ each_posted (post_within depth c code) (posted_next c r) a
  posted_on depth ecb_reply.Posted a is = cc is
  posted_on depth (ecb_reply.Woke exit) a is =
      let same : answer.Woke ≡ a = cc is in ap (λ b. each_posted (post_within depth c code) (targets_of c exit) b) same
  posted_on depth (ecb_reply.Already d) a is = cc is
  posted_on depth r a is = absurd (cc is)

  -- the block is posted, and what its exit posts comes before what was to be posted after it
  pub post_step : (t u : CallerFace) (e depth : ℕ) (r : EcbReply) (a x : PostAnswer) (fs : List Frame)
      → answer_in (reply_of.Ecb r) ≡ Some a → Happened t (Ecb e) (op_on.Ecb (Post code)) (reply_of.Ecb r) u
      → Runs 1 (behind (post_within (suc depth) c code e) fs)
      (behind (Done x) (record { depth = depth; blocks = posted_next c r; answer = a } ∷ fs)) t u
  post_step t u e depth r a x fs answers h =
      let next : Heard → Program PostAnswer = λ y. after_post depth y.entry.reply in
      runs_word (behind (post_within (suc depth) c code e) fs)
      (behind (Done x) (record { depth = depth; blocks = posted_next c r; answer = a } ∷ fs))
      t (Ecb e) (op_on.Ecb (Post code)) (reply_of.Ecb r) u tt h
      (asks_behind (Ecb e) (op_on.Ecb (Post code)) next fs)
      (λ y is. heard_behind (Ecb e) (op_on.Ecb (Post code)) next y fs
      ∙ ap (λ q. behind q fs) (ap (λ z. after_post depth z) is ∙ posted_on depth r a answers))

  -- the first post, with nothing after it
  pub first_step : (t u : CallerFace) (e depth : ℕ) (r : EcbReply) (a x : PostAnswer) → answer_in (reply_of.Ecb r) ≡ Some a
      → Happened t (Ecb e) (op_on.Ecb (Post code)) (reply_of.Ecb r) u
      → Runs 1 (post_within (suc depth) c code e) (behind (Done x) (record { depth = depth; blocks = posted_next c r; answer = a } ∷ []))
      t u
  first_step t u e depth r a x answers h = post_step t u e depth r a x [] answers h

  -- targets above a block are followed one less deep
  pub deep_targets : (e depth : ℕ) (ts : List ℕ) → length c.owners ≤ e + suc depth
      → AllByRecursion (λ t. (e < t) × (t < length c.owners)) ts → AreDeep depth ts
  deep_targets e depth [] le up = tt
  deep_targets e depth (t ∷ ts) le up = let a = up.0.0 in ((omega arith, up.0.1), deep_targets e depth ts le up.1)

  ends_more : (a : PostAnswer) (f : Frame) (fs : List Frame) → EndsIn a fs → EndsIn a (f ∷ fs)
  ends_more a f [] e = absurd e
  ends_more a f (g ∷ fs) e = e

  deep_below : (depth : ℕ) (es : List ℕ) (more : List ℕ) → AreDeep depth es → AllByRecursion (λ e. e < length c.owners) more
      → AllByRecursion (λ e. e < length c.owners) (es ++ more)
  deep_below depth [] more all later = later
  deep_below depth (e ∷ es) more all later = (all.0.1, deep_below depth es more all.1 later)

  pub all_below : (fs : List Frame) → AllDeep fs → AllByRecursion (λ e. e < length c.owners) (flat fs)
  all_below [] all = tt
  all_below (f ∷ fs) all = deep_below f.depth f.blocks (flat fs) all.0 (all_below fs all.1)

  -- A post that is underway: what is pending is what is left of its program, and costs no more than is left.
  pub record Underway (e : ℕ) (t : CallerFace) (a : PostAnswer) (u : CallerFace) (work : List ℕ) : Type 0 where
    pub frames : List Frame
    pub ending : EndsIn a frames
    pub deep : AllDeep frames
    pub flat_is : flat frames ≡ work
    pub made : ℕ
    pub runs : Runs made (post_within (length c.owners) c code e) (behind (Done a) frames) t u
    pub few : made + total (reach c) work ≤ reach c e
    pub left : total (reach c) work ≤ u.left
    pub rest : IsAtRest u.log

  rest_one : (log : List Entry) (k e place : ℕ) (reply : Reply) → IsAtRest log
      → IsAtRest (log ++ record { caller = k; object = Ecb e; place = place; op = op_on.Ecb (Post code); reply = reply } ∷ [])
  rest_one log k e place reply r =
      let same = waits_from-append no_waits log
      (record { caller = k; object = Ecb e; place = place; op = op_on.Ecb (Post code); reply = reply } ∷ []) in record {
        armed = λ n. ap (λ w. w.armed n) same ∙ r.armed n;
        parked = λ n. ap (λ w. w.parked n) same ∙ r.parked n;
        queued = λ latch id. ap (λ w. w.queued latch id) same ∙ r.queued latch id;
      }

  rest_after : (t u : CallerFace) (e : ℕ) (reply : Reply) → Happened t (Ecb e) (op_on.Ecb (Post code)) reply u → IsAtRest t.log
      → IsAtRest u.log
  rest_after t u e reply h r = subst IsAtRest (sym h.1.logged) (rest_one t.log t.number e h.0 reply r)

  -- the first post
  pub begun : (t u : CallerFace) (e : ℕ) (r : EcbReply) (a : PostAnswer) → e < length c.owners → answer_in (reply_of.Ecb r) ≡ Some a
      → Happened t (Ecb e) (op_on.Ecb (Post code)) (reply_of.Ecb r) u
      → Leads c e (posted_next c r) → reach c e ≤ t.left → t.left ≤ events_limit → IsAtRest t.log → Underway e t a u (posted_next c r)
  begun t u e r a there answers h leads left few rest =
      let depth = length c.owners - 1 in
      let is : suc depth ≡ length c.owners = omega arith in
      let cost = leads.cost (omega arith) in
      let less = h.1.left in record {
        frames = record { depth = depth; blocks = posted_next c r; answer = a } ∷ [];
        ending = refl;
        deep = (deep_targets e depth (posted_next c r) (omega arith) leads.up, tt);
        flat_is = append-nil (posted_next c r);
        made = 1;
        runs = subst (λ n. Runs 1 (post_within n c code e)
            (behind (Done a) (record { depth = depth; blocks = posted_next c r; answer = a } ∷ [])) t u) is
            (first_step t u e depth r a a answers h);
        few = omega arith;
        left = omega arith;
        rest = rest_after t u e (reply_of.Ecb r) h rest;
      }

  -- one more post
  pub going : (e : ℕ) (t : CallerFace) (a : PostAnswer) (u : CallerFace) (next : ℕ) (work : List ℕ) (v : CallerFace) (r : EcbReply)
      (b : PostAnswer) → Underway e t a u (next ∷ work) → answer_in (reply_of.Ecb r) ≡ Some b
      → Happened u (Ecb next) (op_on.Ecb (Post code)) (reply_of.Ecb r) v → Leads c next (posted_next c r) → u.left ≤ events_limit
      → Underway e t a v (posted_next c r ++ work)
  going e t a u next work v r b w answers h leads few =
      let n = next_of a next work w.frames w.ending w.deep w.flat_is in
      let left = w.left in
      let cost = leads.cost (omega arith) in
      let sum = total-append (reach c) (posted_next c r) work in
      let less = h.1.left in
      let so_far = w.few in record {
        frames = record { depth = n.depth; blocks = posted_next c r; answer = b } ∷ n.frames;
        ending = ends_more a (record { depth = n.depth; blocks = posted_next c r; answer = b }) n.frames n.ends_in;
        deep = (deep_targets next n.depth (posted_next c r) n.deep.0 leads.up, n.all_deep);
        flat_is = ap (λ es. posted_next c r ++ es) n.flat_is;
        made = w.made + 1;
        runs = runs_then w.made 1 (post_within (length c.owners) c code e) (behind (Done a) w.frames)
            (behind (Done a) (record { depth = n.depth; blocks = posted_next c r; answer = b } ∷ n.frames)) t u v w.runs
            (subst (λ q. Runs 1 q (behind (Done a) (record { depth = n.depth; blocks = posted_next c r; answer = b } ∷ n.frames)) u v)
            (sym (n.same a)) (post_step u v next n.depth r b a n.frames answers h));
        few = omega arith;
        left = omega arith;
        rest = rest_after u v next (reply_of.Ecb r) h w.rest;
      }

  -- and the last
  pub ended : (e : ℕ) (t : CallerFace) (a : PostAnswer) (u : CallerFace) → IsAtRest t.log → Underway e t a u []
      → IsServed (reach c e) (post c e code) (λ b. b ≡ a) t u
  ended e t a u began w = serves (reach c e) (post c e code) (λ b. b ≡ a) t u a began refl
      (runs_within w.made (reach c e) (post_within (length c.owners) c code e) (Done a) t u (let few = w.few in omega arith)
      (subst (λ q. Runs w.made (post_within (length c.owners) c code e) q t u) (ends a a w.frames w.ending w.flat_is) w.runs))
      w.rest
