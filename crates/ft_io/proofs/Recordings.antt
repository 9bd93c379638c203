-- What a recording of calls says, over two steps.
use Rattle.std.proofs.Common.{◌∙◌, ap, Option, None, Some, List, ◌++◌, append_assoc, [], sym, append-nil}
use Rattle.ft_io.specs.Reported.{Reports}

pub reports_on : {A : Type 0} (old mid new : Option (List A)) (xs ys : List A) → Reports old mid xs → Reports mid new ys → Reports old new (xs ++ ys)
reports_on None None None xs ys a b = tt
reports_on None None (Some n) xs ys a b = absurd b
reports_on None (Some m) None xs ys a b = tt
reports_on None (Some m) (Some n) xs ys a b = absurd a
reports_on (Some o) None None xs ys a b = tt
reports_on (Some o) None (Some n) xs ys a b = absurd b
reports_on (Some o) (Some m) None xs ys a b = tt
reports_on (Some o) (Some m) (Some n) xs ys a b = b ∙ (ap (λ l. l ++ ys) a ∙ append_assoc o xs ys)

pub none_reported : {A : Type 0} (reported : Option (List A)) → Reports reported reported []
none_reported None = tt
none_reported (Some calls) = sym (append-nil calls)
