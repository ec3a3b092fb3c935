-- From what a program read, made of it and wrote, to what it took and printed.
use Rattle.std.proofs.Common.{◌≡◌, ℕ, List, take, drop, None, Some, IfSome, Result, Ok, Err, subst, ◌∙◌, ap}
use Rattle.std.specs.declared.option.Option.{Option}
use Rattle.std.specs.Result.{OnOk}
use Rattle.std.specs.Io.KnownBytes.{Appends}
use Rattle.stream.specs.Answer.{Takes, Prints}

-- what was read into a buffer of so many bytes was taken
pub takes : {T E : Type 0} (n most : ℕ) (before after : Option (List ℕ)) (r : Result T E) → n ≡ most
    → Takes n before after → OnOk r (Takes most before after)
takes n most None after (Ok x) long h = tt
takes n most (Some bytes) after (Ok x) long h = h ∙ ap (λ k. Some (drop k bytes)) long
takes n most before after (Err e) long h = tt

-- what was read into such a buffer, and a right text for it that was written
pub prints : {T E : Type 0} (n most : ℕ) (Right : List ℕ → List ℕ → Type 0) (input before after : Option (List ℕ))
    (taken text : List ℕ) (r : Result T E) → n ≡ most → IfSome input (λ bytes. taken ≡ take n bytes) → Right taken text
    → OnOk r (Appends before after text) → OnOk r (Prints most Right input before after)
prints n most Right None before after taken text (Ok x) long read right written = tt
prints n most Right (Some bytes) before after taken text (Ok x) long read right written =
    (text, subst (λ l. Right l text) (read ∙ ap (λ k. take k bytes) long) right, written)
prints n most Right input before after taken text (Err e) long read right written = tt
