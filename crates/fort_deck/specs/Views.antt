-- What the parties of a deck know, and how each call changes it. The chapter "The deck" of
-- docs/THREADS.md.
use Rattle.std.specs.Prelude.{◌+◌, ◌-◌, true, false, List, [], ◌∷◌, ◌++◌, length, drop, sum_by}
use Rattle.fort_deck.specs.declared.job.Job.{Job}
use Rattle.fort_deck.specs.declared.view.Hand.{Hand}
use Rattle.fort_deck.specs.declared.view.View.{View}

-- the owner of a deck on which nothing was put
abbrev pub founder : View
founder =
    record {
      steals = false;
      put = [];
      owned = [];
      stack = [];
      thieves = 0;
      out = 0;
      hands = [];
      number = 0;
      stolen = [];
    }

-- a party that neither owns nor steals
abbrev pub nobody : View
nobody = founder

-- the same owner, which has put, taken and left these
abbrev pub owning : View → List Job → List Job → List Job → View
owning v put owned stack =
    record {
      steals = v.steals;
      put = put;
      owned = owned;
      stack = stack;
      thieves = v.thieves;
      out = v.out;
      hands = v.hands;
      number = v.number;
      stolen = v.stolen;
    }

-- the same thief, which has taken these too
abbrev pub robbing : View → List Job → View
robbing v jobs =
    record {
      steals = v.steals;
      put = v.put;
      owned = v.owned;
      stack = v.stack;
      thieves = v.thieves;
      out = v.out;
      hands = v.hands;
      number = v.number;
      stolen = v.stolen ++ jobs;
    }

-- the owner once it has made one thief more, which has the next number
abbrev pub one_more : View → View
one_more v =
    record {
      steals = v.steals;
      put = v.put;
      owned = v.owned;
      stack = v.stack;
      thieves = v.thieves + 1;
      out = v.out + 1;
      hands = v.hands;
      number = v.number;
      stolen = v.stolen;
    }

abbrev pub newcomer : View → View
newcomer v =
    record {
      steals = true;
      put = [];
      owned = [];
      stack = [];
      thieves = 0;
      out = 0;
      hands = [];
      number = v.thieves;
      stolen = [];
    }

-- what a thief took
abbrev pub hand_of_view : View → Hand
hand_of_view w = record { number = w.number; stolen = w.stolen }

-- the owner once it has taken a thief in
abbrev pub one_less : View → View → View
one_less v w =
    record {
      steals = v.steals;
      put = v.put;
      owned = v.owned;
      stack = v.stack;
      thieves = v.thieves;
      out = v.out - 1;
      hands = hand_of_view w ∷ v.hands;
      number = v.number;
      stolen = v.stolen;
    }

-- what is left of the owner's jobs behind those that its thieves took
abbrev pub left : View → List Job
left v = drop (sum_by (λ hand. length hand.stolen) v.hands) v.stack
