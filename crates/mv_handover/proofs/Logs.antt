-- What is posted to a block and what is taken out of it, by a log that grows.
use Rattle.std.proofs.Common.{◌≡◌, ℕ, List, [], ◌∷◌, ◌++◌, Option, refl, sym, ap, ◌∙◌, append_assoc}
use Rattle.std.proofs.lemmas.List.Elements.{filter_map-append}
use Rattle.mv_wait.specs.Prelude.{Entry}
use Rattle.mv_handover.specs.Slots.{post_code, posts, seen_with, seen_after, taken_with, takes_from}

pub posts-append : (n : ℕ) (xs ys : List Entry) → posts n (xs ++ ys) ≡ posts n xs ++ posts n ys
posts-append n xs ys = filter_map-append (λ (e : Entry). post_code n e.object e.op) xs ys

pub seen_after-append : (n : ℕ) (seen : Option ℕ) (xs ys : List Entry) → seen_after n seen (xs ++ ys)
    ≡ seen_after n (seen_after n seen xs) ys
seen_after-append n seen [] ys = refl
seen_after-append n seen (x ∷ xs) ys = seen_after-append n (seen_with n seen x.object x.op x.reply) xs ys

pub takes_from-append : (n : ℕ) (seen : Option ℕ) (xs ys : List Entry) → takes_from n seen (xs ++ ys)
    ≡ takes_from n seen xs ++ takes_from n (seen_after n seen xs) ys
takes_from-append n seen [] ys = refl
takes_from-append n seen (x ∷ xs) ys =
    ap (λ ts. taken_with n seen x.object x.op ++ ts) (takes_from-append n (seen_with n seen x.object x.op x.reply) xs ys)
    ∙ sym (append_assoc (taken_with n seen x.object x.op) (takes_from n (seen_with n seen x.object x.op x.reply) xs)
    (takes_from n (seen_after n (seen_with n seen x.object x.op x.reply) xs) ys))
