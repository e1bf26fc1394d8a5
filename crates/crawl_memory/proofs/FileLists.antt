-- A file among others.
use Rattle.std.proofs.Common.{◌≡◌, ◌≢◌, inl, inr, ℕ, zero, suc, ◌<◌, ◌≤◌, Bool, true, false, List, [], ◌∷◌, ◌++◌, length, get_or, set, refl, sym, ◌∙◌, ap, arith}
use Rattle.std.proofs.lemmas.Bool.{cases_Bool}
use Rattle.std.specs.Prelude.{if◌then◌else◌}
use Rattle.crawl_traits.specs.declared.file.FileId.{FileId}
use Rattle.crawl_memory.specs.Files.{same_file, file_bytes}
use Rattle.crawl_memory.specs.Laws.{one_file, same_file_self}
use Rattle.crawl_memory.specs.declared.file.MemFile.{MemFile}

pub not_same : (a b : FileId) → b ≢ a → same_file a b ≡ false
not_same a b apart = elim (cases_Bool (same_file a b)) [
  | inl same ↦ absurd (apart (sym (one_file a b same)))
  | inr differ ↦ differ
]

-- no entry before i has the name
abbrev pub Passed : List MemFile → FileId → ℕ → Type 0
Passed files id i = (k : ℕ) (d : MemFile) → k < i → same_file (get_or files k d).id id ≡ false

pub found_there : (files : List MemFile) (id : FileId) (i : ℕ) (d : MemFile) → i < length files → Passed files id i → same_file (get_or files i d).id id ≡ true → file_bytes files id ≡ (get_or files i d).bytes.items
found_there [] id i d lt passed same = absurd (omega (arith, lt))
found_there (f ∷ files) id zero d lt passed same = ap (λ (t : Bool). if t then f.bytes.items else file_bytes files id) same
found_there (f ∷ files) id (suc i) d lt passed same =
    ap (λ (t : Bool). if t then f.bytes.items else file_bytes files id) (passed 0 f (omega arith))
    ∙ found_there files id i d (omega (arith, lt)) (λ k e h. passed (suc k) e (omega (arith, h))) same

pub found_nowhere : (files : List MemFile) (id : FileId) → Passed files id (length files) → file_bytes files id ≡ []
found_nowhere [] id passed = refl
found_nowhere (f ∷ files) id passed =
    ap (λ (t : Bool). if t then f.bytes.items else file_bytes files id) (passed 0 f (omega arith))
    ∙ found_nowhere files id (λ k e h. passed (suc k) e (omega (arith, h)))

pub set_there : (files : List MemFile) (id : FileId) (i : ℕ) (new : MemFile) → i < length files → Passed files id i → same_file new.id id ≡ true → file_bytes (set files i new) id ≡ new.bytes.items
set_there [] id i new lt passed same = absurd (omega (arith, lt))
set_there (f ∷ files) id zero new lt passed same = ap (λ (t : Bool). if t then new.bytes.items else file_bytes files id) same
set_there (f ∷ files) id (suc i) new lt passed same =
    ap (λ (t : Bool). if t then f.bytes.items else file_bytes (set files i new) id) (passed 0 f (omega arith))
    ∙ set_there files id i new (omega (arith, lt)) (λ k d h. passed (suc k) d (omega (arith, h))) same

pub set_other : (files : List MemFile) (id : FileId) (i : ℕ) (new d : MemFile) → i < length files → same_file new.id id ≡ false → same_file (get_or files i d).id id ≡ false → file_bytes (set files i new) id ≡ file_bytes files id
set_other [] id i new d lt fresh old = refl
set_other (f ∷ files) id zero new d lt fresh old =
    ap (λ (t : Bool). if t then new.bytes.items else file_bytes files id) fresh
    ∙ sym (ap (λ (t : Bool). if t then f.bytes.items else file_bytes files id) old)
set_other (f ∷ files) id (suc i) new d lt fresh old =
    ap (λ (l : List ℕ). if same_file f.id id then f.bytes.items else l) (set_other files id i new d (omega (arith, lt)) fresh old)

pub push_there : (files : List MemFile) (id : FileId) (new : MemFile) → Passed files id (length files) → same_file new.id id ≡ true → file_bytes (files ++ new ∷ []) id ≡ new.bytes.items
push_there [] id new passed same = ap (λ (t : Bool). if t then new.bytes.items else []) same
push_there (f ∷ files) id new passed same =
    ap (λ (t : Bool). if t then f.bytes.items else file_bytes (files ++ new ∷ []) id) (passed 0 f (omega arith))
    ∙ push_there files id new (λ k d h. passed (suc k) d (omega (arith, h))) same

pub push_other : (files : List MemFile) (id : FileId) (new : MemFile) → same_file new.id id ≡ false → file_bytes (files ++ new ∷ []) id ≡ file_bytes files id
push_other [] id new fresh = ap (λ (t : Bool). if t then new.bytes.items else []) fresh
push_other (f ∷ files) id new fresh =
    ap (λ (l : List ℕ). if same_file f.id id then f.bytes.items else l) (push_other files id new fresh)

-- a list that was searched up to the entry of a name
module _ (files entry : List MemFile) (id : FileId) (i : ℕ) (d : MemFile) (same : files ≡ entry) (passed : Passed files id i) (lt : i < length files) (at : d ≡ get_or files i d) (test : same_file d.id id ≡ true) where
  pub found_bytes : file_bytes entry id ≡ d.bytes.items
  found_bytes =
      ap (λ (l : List MemFile). file_bytes l id) (sym same)
      ∙ found_there files id i d lt passed (ap (λ (m : MemFile). same_file m.id id) (sym at) ∙ test)
      ∙ ap (λ (m : MemFile). m.bytes.items) (sym at)

  pub replaced_here : (new : MemFile) → new.id ≡ d.id → file_bytes (set files i new) id ≡ new.bytes.items
  replaced_here new is = set_there files id i new lt passed (ap (λ (n : FileId). same_file n id) is ∙ test)

  pub replaced_elsewhere : (new : MemFile) (f : FileId) → new.id ≡ d.id → f ≢ id → file_bytes (set files i new) f ≡ file_bytes entry f
  replaced_elsewhere new f is apart =
      let name : d.id ≡ id = one_file d.id id test in
      let mine : same_file id f ≡ false = not_same id f apart in
      set_other files f i new d lt (ap (λ (n : FileId). same_file n f) (is ∙ name) ∙ mine) (ap (λ (m : MemFile). same_file m.id f) (sym at) ∙ ap (λ (n : FileId). same_file n f) name ∙ mine)
      ∙ ap (λ (l : List MemFile). file_bytes l f) same

-- and one that was searched in vain
module _ (files entry : List MemFile) (id : FileId) (i : ℕ) (same : files ≡ entry) (passed : Passed files id i) (end : length files ≤ i) where
  pub nowhere_bytes : file_bytes entry id ≡ []
  nowhere_bytes = ap (λ (l : List MemFile). file_bytes l id) (sym same) ∙ found_nowhere files id (λ k d h. passed k d (omega (arith, h, end)))

  pub added_here : (new : MemFile) (pushed : List MemFile) → pushed ≡ files ++ new ∷ [] → new.id ≡ id → file_bytes pushed id ≡ new.bytes.items
  added_here new pushed is name =
      ap (λ (l : List MemFile). file_bytes l id) is
      ∙ push_there files id new (λ k d h. passed k d (omega (arith, h, end))) (ap (λ (n : FileId). same_file n id) name ∙ same_file_self id)

  pub added_elsewhere : (new : MemFile) (pushed : List MemFile) (f : FileId) → pushed ≡ files ++ new ∷ [] → new.id ≡ id → f ≢ id → file_bytes pushed f ≡ file_bytes entry f
  added_elsewhere new pushed f is name apart =
      ap (λ (l : List MemFile). file_bytes l f) is
      ∙ push_other files f new (ap (λ (n : FileId). same_file n f) name ∙ not_same id f apart)
      ∙ ap (λ (l : List MemFile). file_bytes l f) same
