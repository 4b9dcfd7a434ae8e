-- A row of each kind, byte for byte: an event and its row, by the table of fields.
use Rattle.std.specs.Prelude.{ℕ, true, List, [], ◌∷◌, codes}
use Rattle.agent_events.specs.Events.{Event}
use Rattle.agent_events.specs.declared.event.EventKind.{EventKind}
use Rattle.agent_events.specs.declared.event.Source.{Source}
use Rattle.agent_events.specs.declared.order.Bearer.{Bearer}
use Rattle.agent_events.specs.declared.order.Body.{Body}

-- the event and the row of each example
abbrev pub calendar_event : Event
calendar_event =
    record {
      moment = 1719835200;
      kind = EventKind.Calendar (record {
        calendar = 1;
        zone = codes "EST5EDT,M3.2.0,M11.1.0";
        minute = 960;
        first = 19723;
        last = 20818;
        holidays = (19908 ∷ 20055 ∷ 20082 ∷ []);
      });
    }

abbrev pub calendar_row : List ℕ
calendar_row =
    1 ∷ 1 ∷ 0 ∷ 0 ∷ 0 ∷ 0 ∷ 102 ∷ 130 ∷ 154 ∷ 64 ∷ 0 ∷ 0 ∷ 0 ∷ 1 ∷ 0 ∷ 22 ∷ 69 ∷ 83 ∷ 84 ∷ 53 ∷
    69 ∷ 68 ∷ 84 ∷ 44 ∷ 77 ∷ 51 ∷ 46 ∷ 50 ∷ 46 ∷ 48 ∷ 44 ∷ 77 ∷ 49 ∷ 49 ∷ 46 ∷ 49 ∷ 46 ∷ 48 ∷ 3 ∷
    192 ∷ 0 ∷ 0 ∷ 77 ∷ 11 ∷ 0 ∷ 0 ∷ 81 ∷ 82 ∷ 0 ∷ 3 ∷ 0 ∷ 0 ∷ 77 ∷ 196 ∷ 0 ∷ 0 ∷ 78 ∷ 87 ∷ 0 ∷
    0 ∷ 78 ∷ 114 ∷ []

abbrev pub close_event : Event
close_event =
    record { moment = 1719838800; kind = EventKind.Close (record { calendar = 1; day = 19909 }) }

abbrev pub close_row : List ℕ
close_row =
    1 ∷ 2 ∷ 0 ∷ 0 ∷ 0 ∷ 0 ∷ 102 ∷ 130 ∷ 168 ∷ 80 ∷ 0 ∷ 0 ∷ 0 ∷ 1 ∷ 0 ∷ 0 ∷ 77 ∷ 197 ∷ []

abbrev pub class_event : Event
class_event =
    record {
      moment = 1719835200;
      kind = EventKind.Class (record {
        class = 11;
        calendar = 1;
        fund = 1;
        name = codes "GROWTH-A";
        family = 7;
        counts = true;
        first_min = 25000;
        later_min = 5000;
        front = (record { floor = 0; rate = 575 } ∷ record {
          floor = 2500000;
          rate = 500;
        } ∷ record { floor = 5000000; rate = 450 } ∷ record {
          floor = 10000000;
          rate = 350;
        } ∷ record { floor = 25000000; rate = 250 } ∷ record {
          floor = 50000000;
          rate = 200;
        } ∷ record { floor = 100000000; rate = 0 } ∷ []);
        deferred = (500 ∷ 400 ∷ 300 ∷ 200 ∷ 100 ∷ []);
      });
    }

abbrev pub class_row : List ℕ
class_row =
    1 ∷ 3 ∷ 0 ∷ 0 ∷ 0 ∷ 0 ∷ 102 ∷ 130 ∷ 154 ∷ 64 ∷ 0 ∷ 0 ∷ 0 ∷ 11 ∷ 0 ∷ 0 ∷ 0 ∷ 1 ∷ 0 ∷ 0 ∷ 0 ∷
    1 ∷ 0 ∷ 8 ∷ 71 ∷ 82 ∷ 79 ∷ 87 ∷ 84 ∷ 72 ∷ 45 ∷ 65 ∷ 0 ∷ 0 ∷ 0 ∷ 7 ∷ 1 ∷ 0 ∷ 0 ∷ 0 ∷ 0 ∷ 0 ∷
    0 ∷ 97 ∷ 168 ∷ 0 ∷ 0 ∷ 0 ∷ 0 ∷ 0 ∷ 0 ∷ 19 ∷ 136 ∷ 0 ∷ 7 ∷ 0 ∷ 0 ∷ 0 ∷ 0 ∷ 0 ∷ 0 ∷ 0 ∷ 0 ∷ 2 ∷
    63 ∷ 0 ∷ 0 ∷ 0 ∷ 0 ∷ 0 ∷ 38 ∷ 37 ∷ 160 ∷ 1 ∷ 244 ∷ 0 ∷ 0 ∷ 0 ∷ 0 ∷ 0 ∷ 76 ∷ 75 ∷ 64 ∷ 1 ∷
    194 ∷ 0 ∷ 0 ∷ 0 ∷ 0 ∷ 0 ∷ 152 ∷ 150 ∷ 128 ∷ 1 ∷ 94 ∷ 0 ∷ 0 ∷ 0 ∷ 0 ∷ 1 ∷ 125 ∷ 120 ∷ 64 ∷ 0 ∷
    250 ∷ 0 ∷ 0 ∷ 0 ∷ 0 ∷ 2 ∷ 250 ∷ 240 ∷ 128 ∷ 0 ∷ 200 ∷ 0 ∷ 0 ∷ 0 ∷ 0 ∷ 5 ∷ 245 ∷ 225 ∷ 0 ∷ 0 ∷
    0 ∷ 0 ∷ 5 ∷ 1 ∷ 244 ∷ 1 ∷ 144 ∷ 1 ∷ 44 ∷ 0 ∷ 200 ∷ 0 ∷ 100 ∷ []

abbrev pub dealer_event : Event
dealer_event =
    record {
      moment = 1719835200;
      kind = EventKind.Dealer (record {
        dealer = 5;
        key = codes "d-broker00005";
        window = 21600;
      });
    }

abbrev pub dealer_row : List ℕ
dealer_row =
    1 ∷ 4 ∷ 0 ∷ 0 ∷ 0 ∷ 0 ∷ 102 ∷ 130 ∷ 154 ∷ 64 ∷ 0 ∷ 0 ∷ 0 ∷ 5 ∷ 0 ∷ 13 ∷ 100 ∷ 45 ∷ 98 ∷ 114 ∷
    111 ∷ 107 ∷ 101 ∷ 114 ∷ 48 ∷ 48 ∷ 48 ∷ 48 ∷ 53 ∷ 0 ∷ 0 ∷ 84 ∷ 96 ∷ []

abbrev pub household_event : Event
household_event =
    record {
      moment = 1719835200;
      kind = EventKind.Household (record {
        household = 1;
        key = codes "h-mary000001";
      });
    }

abbrev pub household_row : List ℕ
household_row =
    1 ∷ 5 ∷ 0 ∷ 0 ∷ 0 ∷ 0 ∷ 102 ∷ 130 ∷ 154 ∷ 64 ∷ 0 ∷ 0 ∷ 0 ∷ 1 ∷ 0 ∷ 12 ∷ 104 ∷ 45 ∷ 109 ∷ 97 ∷
    114 ∷ 121 ∷ 48 ∷ 48 ∷ 48 ∷ 48 ∷ 48 ∷ 49 ∷ []

abbrev pub account_event : Event
account_event =
    record {
      moment = 1719835200;
      kind = EventKind.Account (record {
        account = 101;
        household = 1;
        dealer = 0;
        name = codes "MARY DOE";
      });
    }

abbrev pub account_row : List ℕ
account_row =
    1 ∷ 6 ∷ 0 ∷ 0 ∷ 0 ∷ 0 ∷ 102 ∷ 130 ∷ 154 ∷ 64 ∷ 0 ∷ 0 ∷ 0 ∷ 101 ∷ 0 ∷ 0 ∷ 0 ∷ 1 ∷ 0 ∷ 0 ∷ 0 ∷
    0 ∷ 0 ∷ 8 ∷ 77 ∷ 65 ∷ 82 ∷ 89 ∷ 32 ∷ 68 ∷ 79 ∷ 69 ∷ []

abbrev pub cancel_event : Event
cancel_event =
    record {
      moment = 1719838800;
      kind = EventKind.Cancel (record {
        account = 101;
        ref_no = 2;
        target = 1;
      });
    }

abbrev pub cancel_row : List ℕ
cancel_row =
    1 ∷ 8 ∷ 0 ∷ 0 ∷ 0 ∷ 0 ∷ 102 ∷ 130 ∷ 168 ∷ 80 ∷ 0 ∷ 0 ∷ 0 ∷ 101 ∷ 0 ∷ 0 ∷ 0 ∷ 0 ∷ 0 ∷ 0 ∷ 0 ∷
    2 ∷ 0 ∷ 0 ∷ 0 ∷ 0 ∷ 0 ∷ 0 ∷ 0 ∷ 1 ∷ []

abbrev pub sheet_event : Event
sheet_event =
    record {
      moment = 1719864060;
      kind = EventKind.Sheet (record {
        calendar = 1;
        moment = 1719864000;
        prices = ((11, 1000) ∷ (12, 2011) ∷ (13, 999) ∷ (14, 10000000) ∷ []);
      });
    }

abbrev pub sheet_row : List ℕ
sheet_row =
    1 ∷ 9 ∷ 0 ∷ 0 ∷ 0 ∷ 0 ∷ 102 ∷ 131 ∷ 10 ∷ 252 ∷ 0 ∷ 0 ∷ 0 ∷ 1 ∷ 0 ∷ 0 ∷ 0 ∷ 0 ∷ 102 ∷ 131 ∷
    10 ∷ 192 ∷ 0 ∷ 4 ∷ 0 ∷ 0 ∷ 0 ∷ 11 ∷ 0 ∷ 0 ∷ 0 ∷ 0 ∷ 0 ∷ 0 ∷ 3 ∷ 232 ∷ 0 ∷ 0 ∷ 0 ∷ 12 ∷ 0 ∷
    0 ∷ 0 ∷ 0 ∷ 0 ∷ 0 ∷ 7 ∷ 219 ∷ 0 ∷ 0 ∷ 0 ∷ 13 ∷ 0 ∷ 0 ∷ 0 ∷ 0 ∷ 0 ∷ 0 ∷ 3 ∷ 231 ∷ 0 ∷ 0 ∷ 0 ∷
    14 ∷ 0 ∷ 0 ∷ 0 ∷ 0 ∷ 0 ∷ 152 ∷ 150 ∷ 128 ∷ []

abbrev pub dividend_event : Event
dividend_event =
    record {
      moment = 1719838800;
      kind = EventKind.Dividend (record {
        class = 11;
        moment = 1719864000;
        rate = 120000;
      });
    }

abbrev pub dividend_row : List ℕ
dividend_row =
    1 ∷ 10 ∷ 0 ∷ 0 ∷ 0 ∷ 0 ∷ 102 ∷ 130 ∷ 168 ∷ 80 ∷ 0 ∷ 0 ∷ 0 ∷ 11 ∷ 0 ∷ 0 ∷ 0 ∷ 0 ∷ 102 ∷ 131 ∷
    10 ∷ 192 ∷ 0 ∷ 0 ∷ 0 ∷ 0 ∷ 0 ∷ 1 ∷ 212 ∷ 192 ∷ []

abbrev pub fix_price_event : Event
fix_price_event =
    record {
      moment = 1719867600;
      kind = EventKind.FixPrice (record {
        fix = 1;
        bearer = Bearer.Agent;
        class = 11;
        moment = 1719864000;
        nav = 1010;
      });
    }

abbrev pub fix_price_row : List ℕ
fix_price_row =
    1 ∷ 11 ∷ 0 ∷ 0 ∷ 0 ∷ 0 ∷ 102 ∷ 131 ∷ 24 ∷ 208 ∷ 0 ∷ 0 ∷ 0 ∷ 0 ∷ 0 ∷ 0 ∷ 0 ∷ 1 ∷ 1 ∷ 0 ∷ 0 ∷
    0 ∷ 11 ∷ 0 ∷ 0 ∷ 0 ∷ 0 ∷ 102 ∷ 131 ∷ 10 ∷ 192 ∷ 0 ∷ 0 ∷ 0 ∷ 0 ∷ 0 ∷ 0 ∷ 3 ∷ 242 ∷ []

abbrev pub fix_rate_event : Event
fix_rate_event =
    record {
      moment = 1719867600;
      kind = EventKind.FixRate (record {
        fix = 2;
        bearer = Bearer.Fund;
        class = 11;
        moment = 1719864000;
        rate = 0;
      });
    }

abbrev pub fix_rate_row : List ℕ
fix_rate_row =
    1 ∷ 12 ∷ 0 ∷ 0 ∷ 0 ∷ 0 ∷ 102 ∷ 131 ∷ 24 ∷ 208 ∷ 0 ∷ 0 ∷ 0 ∷ 0 ∷ 0 ∷ 0 ∷ 0 ∷ 2 ∷ 0 ∷ 0 ∷ 0 ∷
    0 ∷ 11 ∷ 0 ∷ 0 ∷ 0 ∷ 0 ∷ 102 ∷ 131 ∷ 10 ∷ 192 ∷ 0 ∷ 0 ∷ 0 ∷ 0 ∷ 0 ∷ 0 ∷ 0 ∷ 0 ∷ []

abbrev pub enter_event : Event
enter_event =
    record {
      moment = 1719867600;
      kind = EventKind.Enter (record {
        fix = 3;
        bearer = Bearer.Dealer 5;
        receipt = 1719838800;
        order = record {
          account = 103;
          ref_no = 9;
          body = Body.Sell 12 1;
        };
      });
    }

abbrev pub enter_row : List ℕ
enter_row =
    1 ∷ 13 ∷ 0 ∷ 0 ∷ 0 ∷ 0 ∷ 102 ∷ 131 ∷ 24 ∷ 208 ∷ 0 ∷ 0 ∷ 0 ∷ 0 ∷ 0 ∷ 0 ∷ 0 ∷ 3 ∷ 2 ∷ 0 ∷ 0 ∷
    0 ∷ 5 ∷ 0 ∷ 0 ∷ 0 ∷ 103 ∷ 0 ∷ 0 ∷ 0 ∷ 0 ∷ 0 ∷ 0 ∷ 0 ∷ 9 ∷ 0 ∷ 0 ∷ 0 ∷ 0 ∷ 102 ∷ 130 ∷ 168 ∷
    80 ∷ 2 ∷ 0 ∷ 0 ∷ 0 ∷ 12 ∷ 0 ∷ 0 ∷ 0 ∷ 0 ∷ 0 ∷ 0 ∷ 0 ∷ 1 ∷ []

abbrev pub replace_event : Event
replace_event =
    record {
      moment = 1719867600;
      kind = EventKind.Replace (record {
        fix = 4;
        bearer = Bearer.Agent;
        receipt = 1719838800;
        order = record {
          account = 101;
          ref_no = 1;
          body = Body.Buy 11 999999;
        };
      });
    }

abbrev pub replace_row : List ℕ
replace_row =
    1 ∷ 14 ∷ 0 ∷ 0 ∷ 0 ∷ 0 ∷ 102 ∷ 131 ∷ 24 ∷ 208 ∷ 0 ∷ 0 ∷ 0 ∷ 0 ∷ 0 ∷ 0 ∷ 0 ∷ 4 ∷ 1 ∷ 0 ∷ 0 ∷
    0 ∷ 101 ∷ 0 ∷ 0 ∷ 0 ∷ 0 ∷ 0 ∷ 0 ∷ 0 ∷ 1 ∷ 0 ∷ 0 ∷ 0 ∷ 0 ∷ 102 ∷ 130 ∷ 168 ∷ 80 ∷ 1 ∷ 0 ∷ 0 ∷
    0 ∷ 11 ∷ 0 ∷ 0 ∷ 0 ∷ 0 ∷ 0 ∷ 15 ∷ 66 ∷ 63 ∷ []

abbrev pub void_event : Event
void_event =
    record {
      moment = 1719867600;
      kind = EventKind.Void (record {
        fix = 9999999999999999999;
        bearer = Bearer.Fund;
        account = 101;
        ref_no = 1;
      });
    }

abbrev pub void_row : List ℕ
void_row =
    1 ∷ 15 ∷ 0 ∷ 0 ∷ 0 ∷ 0 ∷ 102 ∷ 131 ∷ 24 ∷ 208 ∷ 138 ∷ 199 ∷ 35 ∷ 4 ∷ 137 ∷ 231 ∷ 255 ∷ 255 ∷
    0 ∷ 0 ∷ 0 ∷ 0 ∷ 101 ∷ 0 ∷ 0 ∷ 0 ∷ 0 ∷ 0 ∷ 0 ∷ 0 ∷ 1 ∷ []

abbrev pub buy_event : Event
buy_event =
    record {
      moment = 1719838800;
      kind = EventKind.Order (record {
        order = record {
          account = 101;
          ref_no = 1;
          body = Body.Buy 11 1000000;
        };
        source = Source.Direct;
        receipt = 1719838800;
        due = 1719864000;
      });
    }

abbrev pub buy_row : List ℕ
buy_row =
    1 ∷ 7 ∷ 0 ∷ 0 ∷ 0 ∷ 0 ∷ 102 ∷ 130 ∷ 168 ∷ 80 ∷ 0 ∷ 0 ∷ 0 ∷ 101 ∷ 0 ∷ 0 ∷ 0 ∷ 0 ∷ 0 ∷ 0 ∷ 0 ∷
    1 ∷ 0 ∷ 0 ∷ 0 ∷ 0 ∷ 0 ∷ 102 ∷ 130 ∷ 168 ∷ 80 ∷ 0 ∷ 0 ∷ 0 ∷ 0 ∷ 102 ∷ 131 ∷ 10 ∷ 192 ∷ 1 ∷ 0 ∷
    0 ∷ 0 ∷ 11 ∷ 0 ∷ 0 ∷ 0 ∷ 0 ∷ 0 ∷ 15 ∷ 66 ∷ 64 ∷ []

abbrev pub sell_event : Event
sell_event =
    record {
      moment = 1719838800;
      kind = EventKind.Order (record {
        order = record {
          account = 101;
          ref_no = 2;
          body = Body.Sell 11 100000;
        };
        source = Source.Direct;
        receipt = 1719838800;
        due = 1719864000;
      });
    }

abbrev pub sell_row : List ℕ
sell_row =
    1 ∷ 7 ∷ 0 ∷ 0 ∷ 0 ∷ 0 ∷ 102 ∷ 130 ∷ 168 ∷ 80 ∷ 0 ∷ 0 ∷ 0 ∷ 101 ∷ 0 ∷ 0 ∷ 0 ∷ 0 ∷ 0 ∷ 0 ∷ 0 ∷
    2 ∷ 0 ∷ 0 ∷ 0 ∷ 0 ∷ 0 ∷ 102 ∷ 130 ∷ 168 ∷ 80 ∷ 0 ∷ 0 ∷ 0 ∷ 0 ∷ 102 ∷ 131 ∷ 10 ∷ 192 ∷ 2 ∷ 0 ∷
    0 ∷ 0 ∷ 11 ∷ 0 ∷ 0 ∷ 0 ∷ 0 ∷ 0 ∷ 1 ∷ 134 ∷ 160 ∷ []

abbrev pub sell_cash_event : Event
sell_cash_event =
    record {
      moment = 1719838800;
      kind = EventKind.Order (record {
        order = record {
          account = 101;
          ref_no = 3;
          body = Body.SellCash 11 50000;
        };
        source = Source.Direct;
        receipt = 1719838800;
        due = 1719864000;
      });
    }

abbrev pub sell_cash_row : List ℕ
sell_cash_row =
    1 ∷ 7 ∷ 0 ∷ 0 ∷ 0 ∷ 0 ∷ 102 ∷ 130 ∷ 168 ∷ 80 ∷ 0 ∷ 0 ∷ 0 ∷ 101 ∷ 0 ∷ 0 ∷ 0 ∷ 0 ∷ 0 ∷ 0 ∷ 0 ∷
    3 ∷ 0 ∷ 0 ∷ 0 ∷ 0 ∷ 0 ∷ 102 ∷ 130 ∷ 168 ∷ 80 ∷ 0 ∷ 0 ∷ 0 ∷ 0 ∷ 102 ∷ 131 ∷ 10 ∷ 192 ∷ 3 ∷ 0 ∷
    0 ∷ 0 ∷ 11 ∷ 0 ∷ 0 ∷ 0 ∷ 0 ∷ 0 ∷ 0 ∷ 195 ∷ 80 ∷ []

abbrev pub sell_all_event : Event
sell_all_event =
    record {
      moment = 1719838800;
      kind = EventKind.Order (record {
        order = record {
          account = 101;
          ref_no = 4;
          body = Body.SellAll 12;
        };
        source = Source.Direct;
        receipt = 1719838800;
        due = 1719864000;
      });
    }

abbrev pub sell_all_row : List ℕ
sell_all_row =
    1 ∷ 7 ∷ 0 ∷ 0 ∷ 0 ∷ 0 ∷ 102 ∷ 130 ∷ 168 ∷ 80 ∷ 0 ∷ 0 ∷ 0 ∷ 101 ∷ 0 ∷ 0 ∷ 0 ∷ 0 ∷ 0 ∷ 0 ∷ 0 ∷
    4 ∷ 0 ∷ 0 ∷ 0 ∷ 0 ∷ 0 ∷ 102 ∷ 130 ∷ 168 ∷ 80 ∷ 0 ∷ 0 ∷ 0 ∷ 0 ∷ 102 ∷ 131 ∷ 10 ∷ 192 ∷ 4 ∷ 0 ∷
    0 ∷ 0 ∷ 12 ∷ []

abbrev pub exchange_event : Event
exchange_event =
    record {
      moment = 1719838800;
      kind = EventKind.Order (record {
        order = record {
          account = 101;
          ref_no = 5;
          body = Body.Exchange 12 13 250000;
        };
        source = Source.Direct;
        receipt = 1719838800;
        due = 1719864000;
      });
    }

abbrev pub exchange_row : List ℕ
exchange_row =
    1 ∷ 7 ∷ 0 ∷ 0 ∷ 0 ∷ 0 ∷ 102 ∷ 130 ∷ 168 ∷ 80 ∷ 0 ∷ 0 ∷ 0 ∷ 101 ∷ 0 ∷ 0 ∷ 0 ∷ 0 ∷ 0 ∷ 0 ∷ 0 ∷
    5 ∷ 0 ∷ 0 ∷ 0 ∷ 0 ∷ 0 ∷ 102 ∷ 130 ∷ 168 ∷ 80 ∷ 0 ∷ 0 ∷ 0 ∷ 0 ∷ 102 ∷ 131 ∷ 10 ∷ 192 ∷ 5 ∷ 0 ∷
    0 ∷ 0 ∷ 12 ∷ 0 ∷ 0 ∷ 0 ∷ 13 ∷ 0 ∷ 0 ∷ 0 ∷ 0 ∷ 0 ∷ 3 ∷ 208 ∷ 144 ∷ []

abbrev pub exchange_all_event : Event
exchange_all_event =
    record {
      moment = 1719838800;
      kind = EventKind.Order (record {
        order = record {
          account = 101;
          ref_no = 6;
          body = Body.ExchangeAll 12 13;
        };
        source = Source.Direct;
        receipt = 1719838800;
        due = 1719864000;
      });
    }

abbrev pub exchange_all_row : List ℕ
exchange_all_row =
    1 ∷ 7 ∷ 0 ∷ 0 ∷ 0 ∷ 0 ∷ 102 ∷ 130 ∷ 168 ∷ 80 ∷ 0 ∷ 0 ∷ 0 ∷ 101 ∷ 0 ∷ 0 ∷ 0 ∷ 0 ∷ 0 ∷ 0 ∷ 0 ∷
    6 ∷ 0 ∷ 0 ∷ 0 ∷ 0 ∷ 0 ∷ 102 ∷ 130 ∷ 168 ∷ 80 ∷ 0 ∷ 0 ∷ 0 ∷ 0 ∷ 102 ∷ 131 ∷ 10 ∷ 192 ∷ 6 ∷ 0 ∷
    0 ∷ 0 ∷ 12 ∷ 0 ∷ 0 ∷ 0 ∷ 13 ∷ []

abbrev pub letter_event : Event
letter_event =
    record {
      moment = 1719838800;
      kind = EventKind.Order (record {
        order = record {
          account = 101;
          ref_no = 7;
          body = Body.Letter 11 5000000;
        };
        source = Source.Direct;
        receipt = 1719838800;
        due = 1719864000;
      });
    }

abbrev pub letter_row : List ℕ
letter_row =
    1 ∷ 7 ∷ 0 ∷ 0 ∷ 0 ∷ 0 ∷ 102 ∷ 130 ∷ 168 ∷ 80 ∷ 0 ∷ 0 ∷ 0 ∷ 101 ∷ 0 ∷ 0 ∷ 0 ∷ 0 ∷ 0 ∷ 0 ∷ 0 ∷
    7 ∷ 0 ∷ 0 ∷ 0 ∷ 0 ∷ 0 ∷ 102 ∷ 130 ∷ 168 ∷ 80 ∷ 0 ∷ 0 ∷ 0 ∷ 0 ∷ 102 ∷ 131 ∷ 10 ∷ 192 ∷ 7 ∷ 0 ∷
    0 ∷ 0 ∷ 11 ∷ 0 ∷ 0 ∷ 0 ∷ 0 ∷ 0 ∷ 76 ∷ 75 ∷ 64 ∷ []

abbrev pub elect_event : Event
elect_event =
    record {
      moment = 1719838800;
      kind = EventKind.Order (record {
        order = record {
          account = 101;
          ref_no = 8;
          body = Body.Elect 11 true;
        };
        source = Source.Direct;
        receipt = 1719838800;
        due = 1719864000;
      });
    }

abbrev pub elect_row : List ℕ
elect_row =
    1 ∷ 7 ∷ 0 ∷ 0 ∷ 0 ∷ 0 ∷ 102 ∷ 130 ∷ 168 ∷ 80 ∷ 0 ∷ 0 ∷ 0 ∷ 101 ∷ 0 ∷ 0 ∷ 0 ∷ 0 ∷ 0 ∷ 0 ∷ 0 ∷
    8 ∷ 0 ∷ 0 ∷ 0 ∷ 0 ∷ 0 ∷ 102 ∷ 130 ∷ 168 ∷ 80 ∷ 0 ∷ 0 ∷ 0 ∷ 0 ∷ 102 ∷ 131 ∷ 10 ∷ 192 ∷ 8 ∷ 0 ∷
    0 ∷ 0 ∷ 11 ∷ 1 ∷ []

abbrev pub dealers_line_event : Event
dealers_line_event =
    record {
      moment = 1719842400;
      kind = EventKind.Order (record {
        order = record {
          account = 103;
          ref_no = 7;
          body = Body.Buy 11 1000000;
        };
        source = Source.Dealer;
        receipt = 1719838800;
        due = 1719864000;
      });
    }

abbrev pub dealers_line_row : List ℕ
dealers_line_row =
    1 ∷ 7 ∷ 0 ∷ 0 ∷ 0 ∷ 0 ∷ 102 ∷ 130 ∷ 182 ∷ 96 ∷ 0 ∷ 0 ∷ 0 ∷ 103 ∷ 0 ∷ 0 ∷ 0 ∷ 0 ∷ 0 ∷ 0 ∷ 0 ∷
    7 ∷ 1 ∷ 0 ∷ 0 ∷ 0 ∷ 0 ∷ 102 ∷ 130 ∷ 168 ∷ 80 ∷ 0 ∷ 0 ∷ 0 ∷ 0 ∷ 102 ∷ 131 ∷ 10 ∷ 192 ∷ 1 ∷ 0 ∷
    0 ∷ 0 ∷ 11 ∷ 0 ∷ 0 ∷ 0 ∷ 0 ∷ 0 ∷ 15 ∷ 66 ∷ 64 ∷ []
